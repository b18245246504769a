-- Worked requests, event by event.
use Rattle.std.proofs.Common.{◌≡◌, zero, suc, true, false, [], ◌∷◌, Some, None, inl, inr, refl}
use Rattle.law_translated.specs.Lift.Step.{alone, plain, starts, tells, works, is_quiet, turns}
use Rattle.law_translated.specs.OutPipes.{IsNext}
use Rattle.law_translated.specs.Requests as requests
use Rattle.law_translated.specs.Reads as reads
use Rattle.law_translated.specs.Writes as writes
use Rattle.law_translated.specs.WorkedRequests.{request_line, RepeatedStatus, ActsAfterTheEnd, one_packet, always, read_line, read_sent, bytes, ReadComesTrue, two_packets, half_read, ShortPacketBreaks, write_line, no_pipe, begun_pipe, taken_pipe, known_pipe, write_data, WriteComesTrue, OldActBreaks}

-- ---- a request without data

pub repeated_status : RepeatedStatus
repeated_status = (
  starts requests.Setup refl refl tt,
  (
    works requests.Setup requests.Ack (request_line requests.AtSetup true true false 0) refl requests.Works.takes,
    (
      tells requests.Setup requests.Ack (request_line requests.AtStatus true true false 0) refl refl
          (requests.Hears.goes_on requests.Setup),
      (
        turns refl tt,
        (
          starts requests.Status refl refl tt,
          (
            is_quiet requests.Status (request_line requests.AtStatus true true true 1) refl (requests.Quiet.confirms_unheard refl),
            (
              works requests.Status requests.Ack (request_line requests.AtStatus true true true 1) refl (requests.Works.confirms refl),
              (
                tells requests.Status requests.Ack (request_line requests.Done true true true 1) refl refl
                    (requests.Hears.goes_on requests.Status),
                tt,
              ),
            ),
          ),
        ),
      ),
    ),
  ),
)

pub acts_after_the_end : ActsAfterTheEnd
acts_after_the_end = (
  alone (request_line requests.AtStatus false true false 0) (requests.Alone.goes_or_ends false),
  (
    works requests.Status requests.Ack (request_line requests.AtStatus false true true 1) refl (requests.Works.confirms refl),
    tt,
  ),
)

-- ---- a read

only_last : reads.OnlyLast one_packet always
only_last zero x e s = refl
only_last (suc n) x e s = absurd (let z : None ≡ Some x = e in cc)

pub read_comes_true : ReadComesTrue
read_comes_true = record {
  begins = record { acts = refl; none = refl };
  only = only_last;
  passes = (
    starts reads.Setup refl refl tt,
    (
      works reads.Setup reads.Ack (read_line reads.AtSetup [] true one_packet false false 0) refl reads.Works.takes,
      (
        tells reads.Setup reads.Ack (read_line reads.AtData [] true one_packet false false 0) refl refl reads.Hears.begins,
        (
          turns refl tt,
          (
            starts reads.Data refl refl tt,
            (
              works reads.Data bytes read_sent refl (reads.Works.acknowledged (7 ∷ 8 ∷ []) [] refl),
              (
                tells reads.Data bytes (read_line reads.AtStatus one_packet true [] true false 0) refl refl
                    (reads.Hears.gets_last false (7 ∷ 8 ∷ []) refl refl),
                (
                  turns refl tt,
                  (
                    starts reads.Status refl refl tt,
                    (
                      works reads.Status reads.Ack (read_line reads.AtStatus one_packet true [] true true 1) refl reads.Works.confirms,
                      (
                        tells reads.Status reads.Ack (read_line reads.Done one_packet true [] true true 1) refl refl reads.Hears.ends,
                        tt,
                      ),
                    ),
                  ),
                ),
              ),
            ),
          ),
        ),
      ),
    ),
  );
}

abbrev short_sent : reads.Line
short_sent = record (read_line reads.AtData [] true ((8 ∷ []) ∷ []) true false 0) { expects = false }

pub short_packet_breaks : ShortPacketBreaks
short_packet_breaks = record {
  not_last = λ only. let e : 1 ≡ 2 = only 0 (7 ∷ []) refl refl in cc;
  passes = (
    plain reads.Setup reads.Ack (read_line reads.AtSetup [] true two_packets false false 0)
        (read_line reads.AtData [] true two_packets false false 0)
        refl refl refl reads.Works.takes reads.Hears.begins,
    (
      plain reads.Data (reads.Bytes false (7 ∷ [])) short_sent (read_line reads.AtStatus ((7 ∷ []) ∷ []) true ((8 ∷ []) ∷ []) true false 0)
          refl refl refl (reads.Works.acknowledged (7 ∷ []) ((8 ∷ []) ∷ []) refl) (reads.Hears.gets_last false (7 ∷ []) refl refl),
      (
        plain reads.Status reads.Ack (read_line reads.AtStatus ((7 ∷ []) ∷ []) true ((8 ∷ []) ∷ []) true true 1) half_read
            refl refl refl reads.Works.confirms reads.Hears.ends,
        tt,
      ),
    ),
  );
  wrong = λ r. let e = (r.done refl).1 in cc;
}

-- ---- a write

abbrev next_data : IsNext begun_pipe false (7 ∷ 8 ∷ [])
next_data = record { parity = refl; later = []; rest = refl }

pub write_comes_true : WriteComesTrue
write_comes_true = (
  starts writes.Setup refl refl tt,
  (
    works writes.Setup writes.Ack (write_line writes.AtSetup no_pipe true false 0) refl writes.Works.takes,
    (
      tells writes.Setup writes.Ack (write_line writes.AtData begun_pipe true false 0) refl refl writes.Hears.begins,
      (
        starts write_data refl next_data tt,
        (
          works write_data writes.Ack (write_line writes.AtData taken_pipe true false 0) refl
              (writes.Works.accepts false (7 ∷ 8 ∷ []) refl),
          (
            tells write_data writes.Ack (write_line writes.AtStatus known_pipe true false 0) refl refl
                (writes.Hears.learns_last false (7 ∷ 8 ∷ []) refl),
            (
              turns refl tt,
              (
                starts writes.Status refl refl tt,
                (
                  works writes.Status writes.Ack (write_line writes.AtStatus known_pipe true true 1) refl writes.Works.confirms,
                  (
                    tells writes.Status writes.Ack (write_line writes.Done known_pipe true true 1) refl refl writes.Hears.ends,
                    tt,
                  ),
                ),
              ),
            ),
          ),
        ),
      ),
    ),
  ),
)

pub old_act_breaks : OldActBreaks
old_act_breaks = record {
  passes = (
    plain writes.Setup writes.Ack (write_line writes.AtSetup no_pipe true false 1) (write_line writes.AtData begun_pipe true false 1)
        refl refl refl writes.Works.takes writes.Hears.begins,
    (
      plain write_data writes.Ack (write_line writes.AtData taken_pipe true false 1) (write_line writes.AtStatus known_pipe true false 1)
          refl refl next_data (writes.Works.accepts false (7 ∷ 8 ∷ []) refl) (writes.Hears.learns_last false (7 ∷ 8 ∷ []) refl),
      (
        plain writes.Status writes.Ack (write_line writes.AtStatus known_pipe true true 2) (write_line writes.Done known_pipe true true 2)
            refl refl refl writes.Works.confirms writes.Hears.ends,
        tt,
      ),
    ),
  );
  wrong = λ r. elim r.once [ inl e ↦ let z : 2 ≡ 0 = e in cc | inr e ↦ let z : 2 ≡ 1 = e in cc ];
}
