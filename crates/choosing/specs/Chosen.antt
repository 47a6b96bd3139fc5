-- Which line a call gets. The form is ours: `second/README.md`.
use Rattle.std.specs.Prelude.{cond, List, [], ℕ, eqb, get_or}
use Rattle.table_lines.specs.Lines.{build_line, enter_line, list_line, read_line, veto_line}
use Rattle.tree_lines.specs.Lines.{check_line, loosen_line, order_line, parse_line, render_line}
use Rattle.items.specs.Items.{records_of, sets_of}

-- the line of a call with the byte k, the numbers n and m, and the fields x, y, z and w: r reads, l lists, e enters, o puts in house order, b builds over the set m, v makes the veto build over it, n reads a Newick text, w writes one, x loosens, and c, the last one, checks
abbrev pub call_line : ℕ → ℕ → ℕ → List ℕ → List ℕ → List ℕ → List ℕ → List ℕ
call_line k n m x y z w =
    cond (eqb k 114) (read_line x) (
    cond (eqb k 108) (list_line x y) (
    cond (eqb k 101) (enter_line n (records_of x) y) (
    cond (eqb k 111) (order_line n x y) (
    cond (eqb k 98) (build_line n m x y) (
    cond (eqb k 118) (veto_line n m x y) (
    cond (eqb k 110) (parse_line n x y) (
    cond (eqb k 119) (render_line n x y) (
    cond (eqb k 120) (loosen_line n x y z (sets_of w)) (check_line n x y)))))))))

-- of a call with the numbers ns and the fields xs
abbrev pub line_of : ℕ → List ℕ → List (List ℕ) → List ℕ
line_of k ns xs = call_line k (get_or ns 0 0) (get_or ns 1 0) (get_or xs 0 []) (get_or xs 1 []) (get_or xs 2 []) (get_or xs 3 [])
