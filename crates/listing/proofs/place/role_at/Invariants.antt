use Rattle.std.proofs.Common.{◌≡◌, ◌<◌, drop}
use Rattle.listing.specs.Roles.{role_at, rows_bytes}
use Rattle.listing.proofs.place.role_at.Given as goal

-- the rest decides, and has the byte if all rows have it
abbrev pub invariant-loop-row : goal.invariant-loop-row
invariant-loop-row l = record {
  same : role_at (drop l.row-index l.rows) l.rest ≡ role_at l.rows l.offset;
  low : l.offset < rows_bytes l.rows → l.rest < rows_bytes (drop l.row-index l.rows);
}
