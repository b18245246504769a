use Rattle.std.proofs.Common.{arith, take, ap, ◌∙◌, refl}
use Rattle.std.proofs.lemmas.Grind.{common_steps}
use Rattle.std.proofs.lemmas.Result.{err_from_is_err_and}
use Rattle.hex.specs.Hex.{encode_lower}
use Rattle.usb_base.specs.Outside.{one_more}
use Rattle.report_text.proofs.Prefixes.{no_digits, digits_failed, digits_more}
use Rattle.report_text.proofs.report.print_hex.Goals as goal

pub loop-at-init : goal.loop-at-init
loop-at-init g c = record {
  bound = omega arith;
  appended = no_digits _;
  counted = omega arith;
  same = refl;
}

pub returns-in_err-write_all : goal.returns-in_err-write_all
returns-in_err-write_all g c = let p = err_from_is_err_and c.from_residual.result c.from_residual.ensures.1 in rw p.1 (record {
  ok = tt;
  err = digits_failed _ _ _ c.loop-at.at c.min-n.result c.args.bytes.now _ c.loop-at.invariant.appended
      (c.encode.ensures ∙ ap encode_lower (c.split_at-in-loop-at.ensures.front ∙ ap (take c.min-n.result) c.split_at.ensures.back)) c.in_err-write_all.ensures.err;
  stays = tt;
  rises = c.in_err-write_all.ensures.rises ∙ ap one_more c.loop-at.invariant.same;
  counted = omega (arith, c.in_err-write_all.ensures.counted, c.loop-at.invariant.counted);
})

pub loop-at-preserved : goal.loop-at-preserved
loop-at-preserved g c = record {
  bound = grind (arith, common_steps);
  appended = digits_more _ _ _ c.loop-at.at c.min-n.result c.args.bytes.now _ c.loop-at.invariant.appended
      (c.encode.ensures ∙ ap encode_lower (c.split_at-in-loop-at.ensures.front ∙ ap (take c.min-n.result) c.split_at.ensures.back)) c.in_ok-write_all.ensures.ok;
  counted = grind (arith, common_steps);
  same = c.in_ok-write_all.ensures.stays ∙ c.loop-at.invariant.same;
}
