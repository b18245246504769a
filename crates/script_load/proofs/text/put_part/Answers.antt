use Rattle.std.proofs.Common.{◌∙◌}
use Rattle.script_load.proofs.Pieces.{no_piece, more_text}
use Rattle.script_load.proofs.text.put_part.Goals as goal

pub loop-i-init : goal.loop-i-init
loop-i-init c = no_piece c.args.text.now.items c.args.part c.args.draws.now

pub loop-i-preserved : goal.loop-i-preserved
loop-i-preserved c = more_text _ _ _ c.args.text.now.items c.args.part c.args.draws.now c.loop-i.i c.in_ok-extend_from_slice.ensures.items (c.as_bytes.ensures ∙ c.piece.ensures) c.loop-i.invariant
