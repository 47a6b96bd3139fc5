-- What is still to be counted, from the line and the column so far, comes to the whole. Assumes nothing.
use Rattle.std.proofs.Common.{◌≡◌, ◌+◌, ◌≤◌, drop}
use Rattle.places.specs.LineColumns.{line_column_from}
use Rattle.places.proofs.line_column.Given as goal

abbrev pub invariant-loop-b : goal.invariant-loop-b
invariant-loop-b l = record {
  few_lines : l.line ≤ l.b-index + 1;
  few_columns : l.column ≤ l.b-index + 1;
  comes_to : line_column_from l.line l.column (drop l.b-index l.before) ≡ line_column_from 1 1 l.before;
}
