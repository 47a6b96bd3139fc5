-- A text that is read has a body of as many nodes as begin in it. Assumes nothing.
use mathlib.Core.Bool.{Bool, cond, false, true}
use mathlib.Core.List.{List, [], ◌∷◌, ◌++◌}
use mathlib.Core.Path.{◌∙◌, ◌≡◌, ap, refl, sym}
use Prim.Native.Nat.{ℕ, zero, suc, ◌+◌}
use native.Mathlib.Omega.{arith}
use lib.ListN.{length, length-append}
use Rattle.bodies.proofs.Puts.{inner_width, leaf_width}
use Rattle.bodies.specs.Nodes.{body_length, width}
use Rattle.newick.proofs.Onwards.{Onward, act_on, count_of, depth_of, spot_of}
use Rattle.newick.specs.Place.{fresh, nodes_begun}
use Rattle.newick.specs.Scan.{Move, State, act, again, at_end, behind, due, ended, extended, finish, follow, go, halt, innermost, lengthy, number, outset, parted, past, past_limit, pointed, scan, scan_from, shut, start, state, taken, whole}
use Rattle.newick.specs.Signs.{Sign, closing, colon, comma, figure, foreign, opening, point, semicolon, sign, space}

-- the bytes of a state are those of its nodes
abbrev Full : State → Type 0
Full (state m ps n d) = length d ≡ body_length n

abbrev FullMove : Move → Type 0
FullMove halt = Unit {0}
FullMove (go s) = Full s

shut_full : (ps : List ℕ) (n : ℕ) (d : List ℕ) → length d ≡ body_length n → FullMove (shut ps n d)
shut_full [] n d h = tt
shut_full (p ∷ ps) n d h = h

again_full : (ps : List ℕ) (n : ℕ) (d : List ℕ) → length d ≡ body_length n → FullMove (again ps n d)
again_full [] n d h = tt
again_full (p ∷ ps) n d h = h

finish_full : (ps : List ℕ) (n : ℕ) (d : List ℕ) → length d ≡ body_length n → FullMove (finish ps n d)
finish_full [] n d h = h
finish_full (p ∷ ps) n d h = tt

lengthy_full : (l : Bool) (ps : List ℕ) (n : ℕ) (d : List ℕ) → length d ≡ body_length n → FullMove (lengthy l ps n d)
lengthy_full true ps n d h = h
lengthy_full false ps n d h = tt

extended_full : (v : ℕ) (ps : List ℕ) (n : ℕ) (d : List ℕ) (x : ℕ) → length d ≡ body_length n → FullMove (extended v ps n d x)
extended_full zero ps n d x h = tt
extended_full (suc v) ps n d x h = h

past_full : (f : ℕ → Move) (q : Move) (l : Bool) (ps : List ℕ) (n : ℕ) (d : List ℕ) → ((x : ℕ) → FullMove (f x)) → FullMove q → length d ≡ body_length n → (g : Sign) → FullMove (past f q l ps n d g)
past_full f q l ps n d i j h space = h
past_full f q l ps n d i j h (figure x) = i x
past_full f q l ps n d i j h opening = tt
past_full f q l ps n d i j h closing = shut_full ps n d h
past_full f q l ps n d i j h comma = again_full ps n d h
past_full f q l ps n d i j h colon = lengthy_full l ps n d h
past_full f q l ps n d i j h point = j
past_full f q l ps n d i j h semicolon = finish_full ps n d h
past_full f q l ps n d i j h foreign = tt

-- one node more
one_more : (n : ℕ) (d e : List ℕ) → length e ≡ width → length d ≡ body_length n → length (d ++ e) ≡ body_length (suc n)
one_more n d e w h = omega (arith, length-append d e)

start_full : (ps : List ℕ) (n : ℕ) (d : List ℕ) → length d ≡ body_length n → (g : Sign) → FullMove (act (state start ps n d) g)
unfolding act
start_full ps n d h space = h
start_full ps n d h (figure x) = h
start_full ps n d h opening = one_more n d _ (inner_width (innermost ps)) h
start_full ps n d h closing = tt
start_full ps n d h comma = tt
start_full ps n d h colon = tt
start_full ps n d h point = tt
start_full ps n d h semicolon = tt
start_full ps n d h foreign = tt

-- where a blank or a digit goes on, or neither, and nothing else does
due_full : (ps : List ℕ) (n : ℕ) (d : List ℕ) → length d ≡ body_length n → (g : Sign) → FullMove (act (state due ps n d) g)
unfolding act
due_full ps n d h space = h
due_full ps n d h (figure x) = h
due_full ps n d h opening = tt
due_full ps n d h closing = tt
due_full ps n d h comma = tt
due_full ps n d h colon = tt
due_full ps n d h point = tt
due_full ps n d h semicolon = tt
due_full ps n d h foreign = tt

pointed_full : (ps : List ℕ) (n : ℕ) (d : List ℕ) → length d ≡ body_length n → (g : Sign) → FullMove (act (state pointed ps n d) g)
unfolding act
pointed_full ps n d h space = tt
pointed_full ps n d h (figure x) = h
pointed_full ps n d h opening = tt
pointed_full ps n d h closing = tt
pointed_full ps n d h comma = tt
pointed_full ps n d h colon = tt
pointed_full ps n d h point = tt
pointed_full ps n d h semicolon = tt
pointed_full ps n d h foreign = tt

ended_full : (ps : List ℕ) (n : ℕ) (d : List ℕ) → length d ≡ body_length n → (g : Sign) → FullMove (act (state ended ps n d) g)
unfolding act
ended_full ps n d h space = h
ended_full ps n d h (figure x) = tt
ended_full ps n d h opening = tt
ended_full ps n d h closing = tt
ended_full ps n d h comma = tt
ended_full ps n d h colon = tt
ended_full ps n d h point = tt
ended_full ps n d h semicolon = tt
ended_full ps n d h foreign = tt

act_full : (s : State) → Full s → (g : Sign) → FullMove (act s g)
unfolding act
act_full (state start ps n d) h g = start_full ps n d h g
act_full (state (number v) ps n d) h g = past_full (extended v ps n d) halt true ps (suc n) _ (λ x. extended_full v ps n d x h) tt (one_more n d _ (leaf_width (innermost ps) v) h) g
act_full (state (behind l) ps n d) h g = past_full (λ x. halt) halt l ps n d (λ x. tt) tt h g
act_full (state due ps n d) h g = due_full ps n d h g
act_full (state whole ps n d) h g = past_full (λ x. go (state whole ps n d)) (go (state pointed ps n d)) false ps n d (λ x. h) h h g
act_full (state pointed ps n d) h g = pointed_full ps n d h g
act_full (state parted ps n d) h g = past_full (λ x. go (state parted ps n d)) halt false ps n d (λ x. h) tt h g
act_full (state ended ps n d) h g = ended_full ps n d h g

-- ---- from a state to the end

end_full : (s : State) (b : List ℕ) → Full s → at_end s ≡ taken b → length b ≡ body_length (count_of s)
end_full (state start ps n d) b h e = let z : ◌≡◌ {A = ℕ} 0 1 = cc in absurd (omega arith)
end_full (state (number v) ps n d) b h e = let z : ◌≡◌ {A = ℕ} 0 1 = cc in absurd (omega arith)
end_full (state (behind l) ps n d) b h e = let z : ◌≡◌ {A = ℕ} 0 1 = cc in absurd (omega arith)
end_full (state due ps n d) b h e = let z : ◌≡◌ {A = ℕ} 0 1 = cc in absurd (omega arith)
end_full (state whole ps n d) b h e = let z : ◌≡◌ {A = ℕ} 0 1 = cc in absurd (omega arith)
end_full (state pointed ps n d) b h e = let z : ◌≡◌ {A = ℕ} 0 1 = cc in absurd (omega arith)
end_full (state parted ps n d) b h e = let z : ◌≡◌ {A = ℕ} 0 1 = cc in absurd (omega arith)
end_full (state ended ps n d) b h e = let z : d ≡ b = cc in sym (ap length z) ∙ h

counted : (w : List ℕ) (s : State) (b : List ℕ) → Full s → scan_from true s w ≡ taken b → length b ≡ body_length (count_of s + nodes_begun (spot_of s) w)
unfolding scan_from nodes_begun
counted [] s b h e = omega (arith, end_full s b h e)
counted (c ∷ w) s b h e = by (past_limit s (sign c)) (act s (sign c)) (act_full s h (sign c)) (act_on s (sign c)) e (λ s' k f. counted w s' b k f)
  where
    by : (o : Bool) (m : Move) → FullMove m → Onward (spot_of s) (depth_of s) (count_of s) (sign c) m → follow (suc (length w)) (λ s'. scan_from true s' w) (cond o halt m) ≡ taken b
        → ((s' : State) → Full s' → scan_from true s' w ≡ taken b → length b ≡ body_length (count_of s' + nodes_begun (spot_of s') w)) → length b ≡ body_length (count_of s + nodes_begun (spot_of s) (c ∷ w))
    by true m k a f ih = let z : ◌≡◌ {A = ℕ} 0 1 = cc in absurd (omega arith)
    by false halt k a f ih = let z : ◌≡◌ {A = ℕ} 0 1 = cc in absurd (omega arith)
    by false (go s') k a f ih = let i = ih s' k f in let z = ap (λ p. nodes_begun p w) a.0 in omega (arith, a.2)

pub nodes_begun_lem : (w b : List ℕ) → scan w ≡ taken b → length b ≡ body_length (nodes_begun fresh w)
nodes_begun_lem w b e = omega (arith, counted w outset b refl e)
