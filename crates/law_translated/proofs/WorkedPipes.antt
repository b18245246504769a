-- Worked pipes, event by event.
use Rattle.std.proofs.Common.{◌≡◌, ℕ, ◌+◌, true, false, List, [], ◌∷◌, inl, inr, refl, arith}
use Rattle.law_translated.specs.Lift.Step.{alone, plain, starts, half_starts, repeats, starts_none, gives_up, tells, half_tells, works, is_quiet, gives_dead, shows, forgets, drops, clears}
use Rattle.law_translated.specs.InPipes.{In, IsNear}
use Rattle.law_translated.specs.InPipes.Works.{unacknowledged, acknowledged}
use Rattle.law_translated.specs.InPipes as inward
use Rattle.law_translated.specs.OutPipes.{Ack, Stall, Line, out_opening, IsNext}
use Rattle.law_translated.specs.OutPipes.Alone.{ends, puts}
use Rattle.law_translated.specs.OutPipes as outward
use Rattle.law_translated.specs.OutPipes.Quiet.{accepts_unheard}
use Rattle.law_translated.specs.OutPipes.Hears.{learns, stops}
use Rattle.law_translated.specs.Samples.{one, two, three, in_line, first, second, third, out_line, put_one}
use Rattle.law_translated.specs.WorkedPipes.{TwoFrames, LostStart, LostAcknowledgement, LostAnswer, third_alone, LateResultBreaks, RepeatedStart, ToldAgain, TakenOver, ClearedBefore, ClearBreaks, PlainRepeat, ThreePuts, RepeatedPacket, ClearedTaken, ThirdSilence, WorksOn, StaleEntry}

pub two_frames : TwoFrames
two_frames = (
  starts In refl tt tt,
  (
    works In first (in_line 1 0) refl (acknowledged one (two ∷ three ∷ []) refl),
    (
      shows In first refl,
      (
        tells In first (in_line 1 1) refl refl (inward.Hears.takes false one refl refl),
        (
          drops refl,
          (
            starts In refl tt tt,
            (
              works In second (in_line 2 1) refl (acknowledged two (three ∷ []) refl),
              (
                shows In second refl,
                (
                  tells In second (in_line 2 2) refl refl (inward.Hears.takes true two refl refl),
                  tt,
                ),
              ),
            ),
          ),
        ),
      ),
    ),
  ),
)

pub lost_start : LostStart
lost_start = (
  starts_none refl refl refl,
  (
    gives_up refl refl refl,
    (
      starts In refl tt tt,
      (
        works In first (in_line 1 0) refl (acknowledged one (two ∷ three ∷ []) refl),
        (
          shows In first refl,
          (
            tells In first (in_line 1 1) refl refl (inward.Hears.takes false one refl refl),
            tt,
          ),
        ),
      ),
    ),
  ),
)

pub lost_acknowledgement : LostAcknowledgement
lost_acknowledgement = (
  starts In refl tt tt,
  (
    works In first (in_line 0 0) refl (unacknowledged one (two ∷ three ∷ []) refl),
    (
      shows In first refl,
      (
        tells In first (in_line 0 1) refl refl (inward.Hears.takes false one refl refl),
        (
          drops refl,
          (
            starts In refl tt tt,
            (
              works In first (in_line 1 1) refl (acknowledged one (two ∷ three ∷ []) refl),
              (
                shows In first refl,
                (
                  tells In first (in_line 1 1) refl refl (inward.Hears.drops false one refl),
                  tt,
                ),
              ),
            ),
          ),
        ),
      ),
    ),
  ),
)

pub lost_answer : LostAnswer
lost_answer = (
  starts In refl tt tt,
  (
    works In first (in_line 1 0) refl (acknowledged one (two ∷ three ∷ []) refl),
    (
      shows In first refl,
      (
        half_tells refl,
        (
          drops refl,
          tt,
        ),
      ),
    ),
  ),
)

pub late_result_breaks : LateResultBreaks
late_result_breaks = record {
  comes = (
    starts In refl tt tt,
    (
      works In first (in_line 1 0) refl (acknowledged one (two ∷ three ∷ []) refl),
      tt,
    ),
  );
  not_empty = λ e. cc;
  apart = λ h. h.at;
  after = (
    drops refl,
    (
      starts In refl tt tt,
      (
        works In second (in_line 2 0) refl (acknowledged two (three ∷ []) refl),
        (
          shows In second refl,
          (
            tells In second (in_line 2 0) refl refl (inward.Hears.drops true two refl),
            (
              drops refl,
              (
                starts In refl tt tt,
                (
                  works In third (in_line 3 0) refl (acknowledged three [] refl),
                  (
                    shows In third refl,
                    (
                      tells In third third_alone refl refl (inward.Hears.takes false three refl refl),
                      tt,
                    ),
                  ),
                ),
              ),
            ),
          ),
        ),
      ),
    ),
  );
  broken = λ p. let e = p.1 in cc;
}

pub repeated_start : RepeatedStart
repeated_start = (
  half_starts In refl refl tt tt,
  (
    works In first (in_line 1 0) refl (acknowledged one (two ∷ three ∷ []) refl),
    (
      repeats refl (λ q. q),
      (
        tells In first (in_line 1 1) refl refl (inward.Hears.takes false one refl refl),
        tt,
      ),
    ),
  ),
)

pub told_again : ToldAgain
told_again = (
  starts In refl tt tt,
  (
    works In first (in_line 1 0) refl (acknowledged one (two ∷ three ∷ []) refl),
    (
      half_tells refl,
      (
        tells In first (in_line 1 1) refl refl (inward.Hears.takes false one refl refl),
        tt,
      ),
    ),
  ),
)

pub taken_over : TakenOver
taken_over = (
  starts In refl tt tt,
  (
    works In first (in_line 1 0) refl (acknowledged one (two ∷ three ∷ []) refl),
    (
      half_tells refl,
      (
        forgets In first refl,
        tt,
      ),
    ),
  ),
)

pub cleared_before : ClearedBefore
cleared_before = (
  half_starts In refl refl tt tt,
  (
    clears tt,
    (
      starts In refl tt tt,
      (
        works In first (in_line 1 0) refl (acknowledged one (two ∷ three ∷ []) refl),
        (
          tells In first (in_line 1 1) refl refl (inward.Hears.takes false one refl refl),
          tt,
        ),
      ),
    ),
  ),
)

-- the device knows of one packet, and the host took none
apart_counts : (known : ℕ) → known + 2 ≡ 3 → IsNear 0 known → ⊥
apart_counts known e (inl h) = omega (arith, e, h)
apart_counts known e (inr h) = omega (arith, e, h)

pub clear_breaks : ClearBreaks
clear_breaks = record {
  comes = (
    half_starts In refl refl tt tt,
    (
      works In first (in_line 1 0) refl (acknowledged one (two ∷ three ∷ []) refl),
      tt,
    ),
  );
  not_spared = λ s. s;
  apart = λ h. apart_counts h.at.known h.at.count (h.at.stand refl);
  after = (
    starts In refl tt tt,
    (
      works In second (in_line 2 0) refl (acknowledged two (three ∷ []) refl),
      (
        tells In second (in_line 2 0) refl refl (inward.Hears.drops true two refl),
        (
          starts In refl tt tt,
          (
            works In third (in_line 3 0) refl (acknowledged three [] refl),
            (
              tells In third third_alone refl refl (inward.Hears.takes false three refl refl),
              tt,
            ),
          ),
        ),
      ),
    ),
  );
  broken = λ p. let e = p.1 in cc;
}

pub plain_repeat : PlainRepeat
plain_repeat = (
  plain In first (in_line 0 0) (in_line 0 1) refl refl tt (unacknowledged one (two ∷ three ∷ []) refl)
      (inward.Hears.takes false one refl refl),
  (
    plain In first (in_line 1 1) (in_line 1 1) refl refl tt (acknowledged one (two ∷ three ∷ []) refl) (inward.Hears.drops false one refl),
    (
      plain In second (in_line 2 1) (in_line 2 2) refl refl tt (acknowledged two (three ∷ []) refl) (inward.Hears.takes true two refl refl),
      tt,
    ),
  ),
)

abbrev next_one : IsNext (out_line 0 0 true) false one
next_one = record { parity = refl; later = two ∷ three ∷ []; rest = refl }

abbrev next_ahead : IsNext (out_line 0 1 true) false one
next_ahead = record { parity = refl; later = two ∷ three ∷ []; rest = refl }

abbrev put_line : List (List ℕ) → Line
put_line rest = record out_opening { rest = rest }

pub three_puts : ThreePuts
three_puts =
    (alone (put_line (one ∷ [])) (puts one), (alone (put_line (one ∷ two ∷ [])) (puts two), (alone (out_line 0 0 true) (puts three), tt)))

pub repeated_packet : RepeatedPacket
repeated_packet = (
  starts put_one refl next_one tt,
  (
    is_quiet put_one (out_line 0 1 true) refl (accepts_unheard false one refl),
    (
      works put_one Ack (out_line 0 1 true) refl (outward.Works.drops false one refl),
      (
        tells put_one Ack (out_line 1 1 true) refl refl (learns false one (two ∷ three ∷ []) refl),
        tt,
      ),
    ),
  ),
)

pub cleared_taken : ClearedTaken
cleared_taken = (
  half_starts put_one refl refl next_one tt,
  (
    works put_one Ack (out_line 0 1 true) refl (outward.Works.accepts false one refl),
    (
      clears tt,
      (
        starts put_one refl next_ahead tt,
        (
          works put_one Ack (out_line 0 1 true) refl (outward.Works.drops false one refl),
          (
            tells put_one Ack (out_line 1 1 true) refl refl (learns false one (two ∷ three ∷ []) refl),
            tt,
          ),
        ),
      ),
    ),
  ),
)

pub third_silence : ThirdSilence
third_silence = (
  starts put_one refl next_one tt,
  (
    is_quiet put_one (out_line 0 1 true) refl (accepts_unheard false one refl),
    (
      gives_dead put_one refl,
      (
        tells put_one Stall (out_line 0 1 false) refl refl (stops false one),
        tt,
      ),
    ),
  ),
)

pub works_on : WorksOn
works_on = (
  starts put_one refl next_one tt,
  (
    alone (out_line 0 0 false) ends,
    (
      works put_one Ack (out_line 0 1 false) refl (outward.Works.accepts false one refl),
      tt,
    ),
  ),
)

pub stale_entry : StaleEntry
stale_entry h = let e : false ≡ true = h.at.is.parity in cc
