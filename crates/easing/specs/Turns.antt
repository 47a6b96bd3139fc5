-- The turns of loosening: the group that is found, and what they come to. E: the entered triplets; n: a number that all species are below.
use Rattle.std.specs.Prelude.{List, [], ◌∷◌, MatchOption, Option, ◌≡◌, ℕ, ◌<◌, take}
use Rattle.std.proofs.lemmas.List.Edits.{sets}
use Rattle.sets.specs.Sets.{number}
use Rattle.sets.specs.Species.{Species}
use Rattle.trees.specs.Check.{R}
use Rattle.trees.specs.Loosen.{Loosened, unearned}
use Rattle.trees.specs.Trees.{Tree}
use Rattle.trees.specs.Triplets.{Triplets}
use Rattle.bodies.specs.Draws.{body_of}
use Rattle.bodies.specs.Nodes.{body_length, nodes, none}
use Rattle.dropping.specs.Drafts.{group_at}
use Rattle.easing.specs.Eases.{numbers, tally}
use Rattle.easing.specs.declared.Tally.{Tally}
use Rattle.easing.specs.declared.Unearned.{Unearned}

-- x is the first node of the body of T whose group is not earned, with its group
pub record UnearnedGroup (E : Triplets) (n : ℕ) (T : Tree) (x : Unearned) : Type 0 where
  pub later : 0 < x.node
  pub first : (l : List Species) × (unearned (R E T) n T ≡ group_at T x.node ∷ l)
  pub inner : (nodes (body_of T)).species x.node ≡ none
  pub group : x.group ≡ number 64 (group_at T x.node)

-- r is that node; none where each group is earned
abbrev pub FindsUnearned : Triplets → ℕ → Tree → Option Unearned → Type 0
FindsUnearned E n T r = MatchOption r (unearned (R E T) n T ≡ []) (UnearnedGroup E n T)

-- what came of loosening: the final tree stands in `draft`, and the dropped sets in `list`, which was `list₀`
pub record Turned (L : Loosened) (list₀ : List ℕ) (w : Tally) (draft list : List ℕ) : Type 0 where
  pub counts : w ≡ tally L
  pub body : take (body_length w.nodes) draft ≡ body_of L.final
  pub stored : list ≡ sets list₀ 0 (numbers L.dropped)
