-- The named form of entering, over triplets with named species: each is read as the record of its three species, so that the definitions of `Enters`
-- say what it does. Document 01, "Our forms for each place": "Entering takes a lent list of records of three numbers".
use Rattle.std.specs.Prelude.{List, [], ◌∷◌, ℕ}
use Rattle.triplets.specs.declared.Triplet.{Triplet}

-- the record of a triplet
abbrev pub spelled : Triplet → List ℕ
spelled t = t.a ∷ (t.b ∷ (t.c ∷ []))
