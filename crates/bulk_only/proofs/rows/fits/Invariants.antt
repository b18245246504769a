use Rattle.std.proofs.Common.{◌≡◌, drop}
use Rattle.bulk_only.specs.Fronts.{fits_rows, nothing_seen}
use Rattle.bulk_only.proofs.rows.fits.Given as goal

abbrev pub invariant-loop-i : goal.invariant-loop-i
invariant-loop-i l = fits_rows (drop l.i l.rows) l.seen (drop l.i l.bytes) ≡ fits_rows l.rows nothing_seen l.bytes
