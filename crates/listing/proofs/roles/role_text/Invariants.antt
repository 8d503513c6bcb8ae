use Rattle.std.proofs.Common.{◌≡◌, ◌+◌, ◌^◌, ◌<◌, ◌++◌, drop}
use Rattle.listing.specs.Roles.{role_lines, rows_bytes}
use Rattle.listing.proofs.roles.role_text.Given as goal

-- the lines so far, and those of the other rows
abbrev pub invariant-loop-row : goal.invariant-loop-row
invariant-loop-row l = record {
  same : l.text.items ++ role_lines (drop l.row-index l.rows) l.rest l.at ≡ role_lines l.rows l.words l.base;
  low : l.at + rows_bytes (drop l.row-index l.rows) < 2 ^ 64;
}
