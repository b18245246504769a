-- Worked windows, event by event.
use Rattle.std.proofs.Common.{◌≡◌, [], ◌∷◌, refl}
use Rattle.law_request.specs.Samples.{good, answer_lost}
use Rattle.law_translated.specs.Lift.Step.{starts, works, is_quiet, tells, turns}
use Rattle.law_translated.specs.Windows.{settles, alike}
use Rattle.law_translated.specs.WorkedWindows.{setup_call, setup_asked, setup_made, setup_heard, status_call, status_lost, status_made, status_heard, reply_below, WindowComesTrue, OtherSizeBreaks}

pub window_comes_true : WindowComesTrue
window_comes_true = record {
  request = record { setup = refl; bytes = λ i. refl };
  size = refl;
  passes = (
    starts setup_call refl (record { on = refl; asks = refl }) tt,
    (
      works setup_call (reply_below good setup_call setup_asked) setup_made.line refl
          (record { losses = good; heard = refl; after = refl }),
      (
        tells setup_call (reply_below good setup_call setup_asked) setup_heard.line refl refl
            (settles setup_heard.line.window.host (alike setup_heard.line.window.host.side refl refl refl refl)),
        (
          turns refl tt,
          (
            starts status_call refl (record { on = refl; asks = refl }) tt,
            (
              is_quiet status_call status_lost.line refl (record { losses = answer_lost; heard = refl; after = refl }),
              (
                works status_call (reply_below good status_call status_lost) status_made.line refl
                    (record { losses = good; heard = refl; after = refl }),
                (
                  tells status_call (reply_below good status_call status_lost) status_heard.line refl refl
                      (settles status_heard.line.window.host (alike status_heard.line.window.host.side refl refl refl refl)),
                  tt,
                ),
              ),
            ),
          ),
        ),
      ),
    ),
  );
  once = refl;
}

pub other_size_breaks : OtherSizeBreaks
other_size_breaks = record {
  size = λ e. let z : 2 ≡ 4 = e in cc;
  cut = refl;
  wrong = λ r. let e : 1 ∷ 2 ∷ [] ≡ 1 ∷ 2 ∷ 3 ∷ 4 ∷ 5 ∷ 6 ∷ [] = r.done_whole refl in cc;
}
