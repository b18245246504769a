use Rattle.std.proofs.Common.{◌≡◌, ℕ, List, [], ◌++◌, refl, sym, ap, subst, ◌∙◌, append_assoc, append-nil, replicate, arith}
use Rattle.std.proofs.lemmas.Result.{err_from_is_err_and}
use Rattle.usb_base.specs.Outside.{one_more}
use Rattle.image_show.specs.declared.image_at.ImageAt.{ImageAt}
use Rattle.image_show.specs.Marks.{AreMarks}
use Rattle.image_show.specs.Shown.{frames_text, header_line, ring_text, seen_before, shown, units}
use Rattle.image_show.proofs.FrameTexts.{seen-none}
use Rattle.image_show.proofs.Marking.{are_marks-start}
use Rattle.image_codec.proofs.Passing.{passes_join, prefix_all, prefix_from_empty, prefix_within}
use Rattle.image_codec.proofs.Paged.{on_flush, on_join}
use Rattle.image_show.proofs.showing.put_image.Goals as goal

whole : (i : ImageAt) (header : List ℕ) → header ≡ header_line i → header ++ (frames_text i 1024 ++ ring_text i) ≡ shown i
unfolding shown
whole i header e = ap (λ (t : List ℕ). t ++ (frames_text i 1024 ++ ring_text i)) e

whole_left : (i : ImageAt) (header : List ℕ) → header ≡ header_line i → (header ++ frames_text i 1024) ++ ring_text i ≡ shown i
whole_left i header e = append_assoc header (frames_text i 1024) (ring_text i) ∙ whole i header e

started : (i : ImageAt) (lists queues : List ℕ) → lists ≡ replicate (units i.words) 0 → queues ≡ replicate (units i.words) 1 → AreMarks lists queues 1 (seen_before i 0)
started i lists queues l q =
    subst (λ (s : List ℕ). AreMarks lists queues 1 s) (seen-none i)
    (subst (λ (x : List ℕ). AreMarks x queues 1 []) (sym l) (subst (λ (x : List ℕ). AreMarks (replicate (units i.words) 0) x 1 []) (sym q) (are_marks-start (units i.words))))

pub put_frames-requires-clause-marks : goal.put_frames-requires-clause-marks
put_frames-requires-clause-marks g c = started c.args.image.now c.args.lists.now c.args.queues.now c.requires.lists c.requires.queues

pub returns-in_err-put : goal.returns-in_err-put
returns-in_err-put g c =
    let p = err_from_is_err_and c.from_residual.result c.from_residual.ensures.1 in
    let header = c.as_slice.ensures.bytes ∙ c.line_of_header.ensures in
    rw p.1 (record {
      ok = tt;
      err = prefix_from_empty _ _ c.new-page.result (shown c.args.image.now) c.new-page.ensures
          (prefix_all _ _ c.new-page.result c.as_slice.result.now _ _ (whole c.args.image.now c.as_slice.result.now header) c.in_err-put.ensures.err);
      stays = tt;
      rises = c.in_err-put.ensures.rises;
      counted = c.in_err-put.ensures.counted;
    })

pub returns-in_err-put_frames : goal.returns-in_err-put_frames
returns-in_err-put_frames g c =
    let p = err_from_is_err_and c.from_residual-in_err-put_frames.result c.from_residual-in_err-put_frames.ensures.1 in
    let header = c.as_slice.ensures.bytes ∙ c.line_of_header.ensures in
    rw p.1 (record {
      ok = tt;
      err = prefix_from_empty _ _ c.new-page.result (shown c.args.image.now) c.new-page.ensures
          (prefix_within _ _ _ c.new-page.result _ c.as_slice.result.now (frames_text c.args.image.now 1024) (ring_text c.args.image.now) (shown c.args.image.now)
          c.in_ok-put.ensures.ok c.in_err-put_frames.ensures.printed.err (whole c.args.image.now c.as_slice.result.now header));
      stays = tt;
      rises = c.in_err-put_frames.ensures.printed.rises ∙ ap one_more c.in_ok-put.ensures.stays;
      counted = omega (arith, c.in_err-put_frames.ensures.printed.counted, c.in_ok-put.ensures.counted);
    })

pub returns-in_err-put_ring : goal.returns-in_err-put_ring
returns-in_err-put_ring g c =
    let p = err_from_is_err_and c.from_residual-in_err-put_ring.result c.from_residual-in_err-put_ring.ensures.1 in
    let header = c.as_slice.ensures.bytes ∙ c.line_of_header.ensures in
    let front = passes_join _ _ _ c.new-page.result _ _ c.as_slice.result.now (frames_text c.args.image.now 1024) c.in_ok-put.ensures.ok c.in_ok-put_frames.ensures.printed.ok in
    let all = ap (λ (t : List ℕ). (c.as_slice.result.now ++ frames_text c.args.image.now 1024) ++ t) (append-nil (ring_text c.args.image.now))
    ∙ whole_left c.args.image.now c.as_slice.result.now header in
    rw p.1 (record {
      ok = tt;
      err = prefix_from_empty _ _ c.new-page.result (shown c.args.image.now) c.new-page.ensures
          (prefix_within _ _ _ c.new-page.result _ (c.as_slice.result.now ++ frames_text c.args.image.now 1024) (ring_text c.args.image.now) [] (shown c.args.image.now)
          front c.in_err-put_ring.ensures.err all);
      stays = tt;
      rises = c.in_err-put_ring.ensures.rises ∙ ap one_more (c.in_ok-put_frames.ensures.printed.stays ∙ c.in_ok-put.ensures.stays);
      counted = omega (arith, c.in_err-put_ring.ensures.counted, c.in_ok-put_frames.ensures.printed.counted, c.in_ok-put.ensures.counted);
    })

pub returns : goal.returns
returns g c =
    let header = c.as_slice.ensures.bytes ∙ c.line_of_header.ensures in
    let front = on_join _ _ _ _ _ _ _ c.new-page.result _ _ c.as_slice.result.now (frames_text c.args.image.now 1024) _ c.in_ok-put.ensures c.in_ok-put_frames.ensures.printed refl in
    let all = on_join _ _ _ _ _ _ _ c.new-page.result _ _ (c.as_slice.result.now ++ frames_text c.args.image.now 1024) (ring_text c.args.image.now) (shown c.args.image.now)
    front c.in_ok-put_ring.ensures (whole_left c.args.image.now c.as_slice.result.now header) in
    on_flush _ _ _ _ _ _ _ c.new-page.result _ _ c.new-page.ensures all c.flush.ensures.printed
