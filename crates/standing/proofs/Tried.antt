-- A sign tried at a place: the text before it, and the sign behind that. Assumes nothing.
use Rattle.std.proofs.Common.{ℕ, ◌+◌, ◌<◌, ◌≤◌, ◌≡◌, List, [], ◌∷◌, ◌++◌, length, take, drop, add-one, ap, ◌∙◌}
use Rattle.std.proofs.Math.ListN.{set}
use Rattle.std.proofs.Math.Seq.{length-take-le, take-suc-set, take_at}

pub tried : (t z : List ℕ) (q b : ℕ) → q ≤ length t → q < length (take q t ++ drop q z) → take (q + 1) (set (take q t ++ drop q z) q b) ≡ take q t ++ (b ∷ [])
tried t z q b h l =
    ap (λ (j : ℕ). take j (set (take q t ++ drop q z) q b)) (add-one q) ∙ take-suc-set (take q t ++ drop q z) q b l
    ∙ ap (λ (x : List ℕ). x ++ (b ∷ [])) (take_at (take q t) (drop q z) q (length-take-le q t h))
