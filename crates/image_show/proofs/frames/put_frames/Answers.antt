use Rattle.std.proofs.lemmas.Result.{err_from_is_err_and}
use Rattle.std.proofs.Common.{◌≡◌, ℕ, ◌+◌, subst, arith, refl, ◌∙◌}
use Rattle.image_show.specs.Marks.{AreMarks}
use Rattle.image_show.specs.Shown.{frame_text, frames_text, seen_before}
use Rattle.image_show.proofs.FrameTexts.{frames-front, frames-more, frames-none}
use Rattle.image_codec.proofs.Passing.{passes_all, passes_none, passes_same}
use Rattle.image_codec.proofs.Paged.{on_stop}
use Rattle.image_show.proofs.frames.put_frames.Goals as goal

pub loop-n-init : goal.loop-n-init
loop-n-init g c = record {
  passed = passes_same _ _ _ _ _ _ (frames-none c.args.image.now) (passes_none _ c.args.page.now);
  marks = c.requires.marks;
  counted = omega arith;
  same = refl;
}

pub returns-in_err-put_frame-clause-printed : goal.returns-in_err-put_frame-clause-printed
returns-in_err-put_frame-clause-printed g c =
    let rest = frames-front c.args.image.now c.loop-n.n 1024 c.loop-n-test.true in
    let p = err_from_is_err_and c.from_residual.result c.from_residual.ensures.1 in
    rw p.1 (on_stop _ _ _ _ _ _ _ _ _ _ _ (frames_text c.args.image.now c.loop-n.n) (frame_text c.args.image.now c.loop-n.n) rest.0 (frames_text c.args.image.now 1024)
    c.loop-n.invariant.passed c.loop-n.invariant.same c.in_err-put_frame.ensures.printed rest.1)

pub loop-n-preserved : goal.loop-n-preserved
loop-n-preserved g c =
    let two : c.loop-n.n + 2 ≡ c.loop-n.n + 1 + 1 = omega arith in
    record {
      passed = passes_all _ _ _ _ _ _ (frames_text c.args.image.now c.loop-n.n) (frame_text c.args.image.now c.loop-n.n) _ c.loop-n.invariant.passed
          c.in_ok-put_frame.ensures.printed.ok (frames-more c.args.image.now c.loop-n.n);
      marks = subst (λ (k : ℕ). AreMarks c.put_frame.new.lists c.put_frame.new.queues k (seen_before c.args.image.now (c.loop-n.n + 1))) two c.in_ok-put_frame.ensures.marked;
      counted = omega (arith, c.loop-n.invariant.counted, c.in_ok-put_frame.ensures.printed.counted);
      same = c.in_ok-put_frame.ensures.printed.stays ∙ c.loop-n.invariant.same;
    }
