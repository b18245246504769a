-- What a plain IN comes to, by what is heard: the packet that is expected is taken, and any other is not.
use Rattle.std.proofs.Common.{◌≡◌, ℕ, zero, suc, ◌+◌, ◌≤◌, nat_le, Bool, true, false, not, if◌then◌else◌, List, [], ◌∷◌, ◌++◌, length, drop, slice_get, Option, Some, None, ap, refl, sym, subst, ◌∙◌, arith}
use Rattle.std.specs.List.{concat}
use Rattle.std.proofs.lemmas.Bool.{false≢true, leb-true, le-leb}
use Rattle.std.proofs.lemmas.List.{append-nil}
use Rattle.law_common.proofs.Lists.{no_bytes}
use Rattle.usb_base.specs.declared.packets.Ask.{Ask}
use Rattle.usb_base.specs.declared.packets.Pid.{Pid}
use Rattle.usb_base.specs.declared.packets.Pid.TheVariants as Packets
use Rattle.usb_base.specs.declared.packets.Reply.{Reply}
use Rattle.usb_base.specs.declared.packets.Reply.TheVariants.{Bytes}
use Rattle.usb_base.specs.declared.packets.Split.{Split}
use Rattle.usb_base.specs.declared.packets.Split.TheVariants as Splits
use Rattle.toggle_error.specs.declared.host.HostSide.{HostSide}
use Rattle.toggle_error.specs.declared.host.Outcome.{Outcome}
use Rattle.toggle_error.specs.declared.host.Outcome.TheVariants as outcomes
use Rattle.toggle_error.specs.declared.rows.AskToken.{AskToken}
use Rattle.toggle_error.specs.declared.rows.AskToken.TheVariants as tokens
use Rattle.toggle_error.specs.declared.rows.Heard.{Heard}
use Rattle.toggle_error.specs.declared.rows.Heard.TheVariants as Heards
use Rattle.toggle_error.specs.Columns.{expected_pid, limit_of, out_token, token_at, token_of, fitting, heard_data, heard_of}
use Rattle.toggle_error.specs.PlainRows.{plain_row}
use Rattle.toggle_error.specs.Settle.{row_at, outcome_of_row, outcome_of}
use Rattle.transactions.specs.Calls.{got_of}
use Rattle.law_structures.specs.lent_structures.Settles.{is_moved, Leaves, Brings}
use Rattle.law_structures.proofs.lemmas.lent_structures.Moving.{Moves, row_is, in_fits, heard_bytes, heard_fits}
use Rattle.law_pipe.specs.Pipe.{alike}
use Rattle.law_pipe.proofs.Agreement.{took, dropped}
use Rattle.law_ring.specs.Bus.{Sender, is_data, Answers, nothing_heard, unacknowledged, acknowledged}
use Rattle.law_ring.specs.Pipes.{pipe_at, IsHalf}

-- ---- what is moved

in_plain : (ask : Ask) (sent : ℕ) (last : Bool) (reply : Reply) (host : HostSide) → ask.split ≡ Splits.Plain → ask.pid ≡ Packets.In → Moves (outcome_of ask sent last reply host) (heard_bytes (heard_of host reply))
in_plain ask sent last reply host plain token =
    let t : token_of ask ≡ tokens.In = ap (λ (p : Pid). token_at p (out_token ask.speed ask.kind)) token in
    subst (λ (s : Split). Moves (outcome_of_row (row_at s ask.kind last (heard_of host reply) (plain_row (token_of ask) (heard_of host reply) sent)) host) (heard_bytes (heard_of host reply))) (sym plain)
    (subst (λ (k : AskToken). Moves (outcome_of_row (row_at Splits.Plain ask.kind last (heard_of host reply) (plain_row k (heard_of host reply) sent)) host) (heard_bytes (heard_of host reply))) (sym t)
    (subst (Moves (outcome_of_row (row_at Splits.Plain ask.kind last (heard_of host reply) (plain_row tokens.In (heard_of host reply) sent)) host)) (in_fits (heard_of host reply) sent)
    (row_is (row_at Splits.Plain ask.kind last (heard_of host reply) (plain_row tokens.In (heard_of host reply) sent)) host)))

none_heard : (host : HostSide) (reply : Reply) → is_data reply ≡ false → heard_bytes (heard_of host reply) ≡ None
none_heard host reply off = heard_fits (λ (o : Option ℕ). o ≡ None) host reply refl (λ pid bs is few. absurd (false≢true (sym off ∙ ap is_data is)))

fits_heard : (n limit : ℕ) → n ≤ limit → heard_bytes (fitting n limit) ≡ Some n
fits_heard n limit few = ap (λ (b : Bool). heard_bytes (if b then Heards.Fitting n else Heards.TooLong)) (le-leb n limit few)

same_toggle : (a b : Bool) (expected : Heard) → alike a b ≡ true → heard_data b (expected_pid a) expected ≡ expected
same_toggle true true expected on = refl
same_toggle false false expected on = refl
same_toggle true false expected on = absurd (false≢true on)
same_toggle false true expected on = absurd (false≢true on)

other_toggle : (a b : Bool) (expected : Heard) → alike a b ≡ false → heard_bytes (heard_data b (expected_pid a) expected) ≡ None
other_toggle true false expected off = refl
other_toggle false true expected off = refl
other_toggle true true expected off = absurd (false≢true (sym off))
other_toggle false false expected off = absurd (false≢true (sym off))

-- ---- the host's side

not_taken : (host : HostSide) (o : Outcome) (got : List ℕ) (after : HostSide) → Moves o None → Leaves host o after → Brings Packets.In o got → (after.toggle ≡ host.toggle) × (got ≡ [])
not_taken host o got after none leaves brings = (
  leaves.toggle ∙ ap (λ (b : Bool). if b then not host.toggle else host.toggle) none.1,
  no_bytes got (brings.all refl ∙ none.0),
)

is_taken : (host : HostSide) (n : ℕ) (o : Outcome) (got : List ℕ) (pid : Pid) (x : List ℕ) (after : HostSide) → o ≡ outcomes.Moved n → got ≡ got_of Packets.In o (Bytes pid x) → Leaves host o after → (after.toggle ≡ not host.toggle) × (got ≡ x)
is_taken host n o got pid x after moved is leaves = (
  leaves.toggle ∙ ap (λ (p : Outcome). if is_moved p then not host.toggle else host.toggle) moved,
  is ∙ ap (λ (p : Outcome). got_of Packets.In p (Bytes pid x)) moved,
)

-- ---- a step of the pipe

-- the packets taken, which are one or none, and that both sides agree afterwards
pub record InStep (packets : List (List ℕ)) (s : Sender) (acc : List (List ℕ)) (got : List ℕ) (toggle : Bool) : Type 0 where
  pub more : List (List ℕ)
  pub few : length more ≤ 1
  pub bytes : got ≡ concat more
  pub half : IsHalf packets s (acc ++ more) toggle

none_more : (packets : List (List ℕ)) (s : Sender) (acc : List (List ℕ)) (got : List ℕ) (before toggle : Bool) → (toggle ≡ before) × (got ≡ []) → IsHalf packets s acc before → InStep packets s acc got toggle
none_more packets s acc got before toggle is half = record {
  more = [];
  few = omega arith;
  bytes = is.1;
  half = subst (λ (xs : List (List ℕ)). IsHalf packets s xs toggle) (sym (append-nil acc)) (subst (λ (b : Bool). IsHalf packets s acc b) (sym is.0) half);
}

one_more : (packets : List (List ℕ)) (s : Sender) (acc : List (List ℕ)) (got x : List ℕ) (after toggle : Bool) → (toggle ≡ after) × (got ≡ x) → IsHalf packets s (acc ++ x ∷ []) after → InStep packets s acc got toggle
one_more packets s acc got x after toggle is half = record {
  more = x ∷ [];
  few = omega arith;
  bytes = is.1 ∙ sym (append-nil x);
  half = subst (λ (b : Bool). IsHalf packets s (acc ++ x ∷ []) b) (sym is.0) half;
}

-- the first packet that is left
record IsNext (packets : List (List ℕ)) (n : ℕ) (x : List ℕ) (rest : List (List ℕ)) : Type 0 where
  next : slice_get packets n ≡ Some x
  after : rest ≡ drop (suc n) packets

is_next : (packets : List (List ℕ)) (n : ℕ) (x : List ℕ) (rest : List (List ℕ)) → drop n packets ≡ x ∷ rest → IsNext packets n x rest
is_next [] zero x rest e = absurd cc
is_next [] (suc n) x rest e = absurd cc
is_next (y ∷ ys) zero x rest e = record { next = ap Some (ap (λ (xs : List (List ℕ)). first_of xs) e); after = sym (ap (λ (xs : List (List ℕ)). drop 1 xs) e) }
  where
    first_of : List (List ℕ) → List ℕ
    first_of [] = []
    first_of (z ∷ zs) = z
is_next (y ∷ ys) (suc n) x rest e = let k = is_next ys n x rest e in record { next = k.next; after = k.after }

-- the sender, by whether it heard the acknowledgement
abbrev heard_by : Bool → List (List ℕ) → Sender → Sender
heard_by true rest s = record { left = rest; sends = not s.sends }
heard_by false rest s = s

module _ (packets : List (List ℕ)) (s : Sender) (acc : List (List ℕ)) (host after : HostSide) (o : Outcome) (got : List ℕ) (leaves : Leaves host o after) (brings : Brings Packets.In o got) (half : IsHalf packets s acc host.toggle) (ask : Ask) (toggle : ask.toggle ≡ expected_pid host.toggle) (limit : ask.limit ≡ limit_of host) where
  next_of : (x : List ℕ) (rest : List (List ℕ)) → s.left ≡ x ∷ rest → IsNext packets half.known x rest
  next_of x rest left = is_next packets half.known x rest (sym half.left ∙ left)

  one_later : (n : ℕ) → drop (suc n) packets ≡ drop (n + 1) packets
  one_later n = let e : suc n ≡ n + 1 = omega arith in ap (λ (i : ℕ). drop i packets) e

  same_pid : (a b : Bool) → alike a b ≡ true → expected_pid b ≡ expected_pid a
  same_pid true true on = refl
  same_pid false false on = refl
  same_pid true false on = absurd (false≢true on)
  same_pid false true on = absurd (false≢true on)

  -- a packet of the toggle that the host expects
  expected_came : (heard : Bool) (x : List ℕ) (rest : List (List ℕ)) (b : Bool) → nat_le (length x) (limit_of host) ≡ b → (heard ≡ true → ask.toggle ≡ expected_pid s.sends → length x ≤ ask.limit) → s.left ≡ x ∷ rest → alike s.sends host.toggle ≡ true
      → Moves o (heard_bytes (heard_of host (Bytes (expected_pid s.sends) x))) → got ≡ got_of Packets.In o (Bytes (expected_pid s.sends) x) → InStep packets (heard_by heard rest s) acc got after.toggle
  expected_came heard x rest true fits able left on moves is =
      let few = leb-true (length x) (limit_of host) fits in
      let moved : o ≡ outcomes.Moved (length x) = subst (Moves o) (ap heard_bytes (same_toggle s.sends host.toggle (fitting (length x) (limit_of host)) on) ∙ fits_heard (length x) (limit_of host) few) moves in
      one_more packets (heard_by heard rest s) acc got x (not host.toggle) after.toggle (is_taken host (length x) o got (expected_pid s.sends) x after moved is leaves) (agreed heard)
    where
      agreed : (h : Bool) → IsHalf packets (heard_by h rest s) (acc ++ x ∷ []) (not host.toggle)
      agreed true = let k = next_of x rest left in record { known = half.known + 1; left = k.after ∙ one_later half.known; agrees = took packets (pipe_at half.known s.sends acc host.toggle) true x k.next on half.agrees }
      agreed false = let k = next_of x rest left in record { known = half.known; left = half.left; agrees = took packets (pipe_at half.known s.sends acc host.toggle) false x k.next on half.agrees }
  expected_came true x rest false long able left on moves is =
      absurd (let few = able refl (toggle ∙ same_pid s.sends host.toggle on) in false≢true (sym long ∙ le-leb (length x) (limit_of host) (omega (arith, few, limit))))
  expected_came false x rest false long able left on moves is =
      let none : Moves o None = subst (Moves o) (ap heard_bytes (same_toggle s.sends host.toggle (fitting (length x) (limit_of host)) on) ∙ ap (λ (b : Bool). heard_bytes (if b then Heards.Fitting (length x) else Heards.TooLong)) long) moves in
      none_more packets s acc got host.toggle after.toggle (not_taken host o got after none leaves brings) half

  -- a packet of the other one is dropped
  other_came : (heard : Bool) (x : List ℕ) (rest : List (List ℕ)) → s.left ≡ x ∷ rest → alike s.sends host.toggle ≡ false → Moves o (heard_bytes (heard_of host (Bytes (expected_pid s.sends) x))) → InStep packets (heard_by heard rest s) acc got after.toggle
  other_came heard x rest left off moves =
      let none : Moves o None = subst (Moves o) (other_toggle s.sends host.toggle (fitting (length x) (limit_of host)) off) moves in
      none_more packets (heard_by heard rest s) acc got host.toggle after.toggle (not_taken host o got after none leaves brings) (agreed heard)
    where
      agreed : (h : Bool) → IsHalf packets (heard_by h rest s) acc host.toggle
      agreed true = let k = next_of x rest left in record { known = half.known + 1; left = k.after ∙ one_later half.known; agrees = dropped packets (pipe_at half.known s.sends acc host.toggle) true x k.next off half.agrees }
      agreed false = half

  data_came : (heard : Bool) (x : List ℕ) (rest : List (List ℕ)) (b : Bool) → alike s.sends host.toggle ≡ b → (heard ≡ true → ask.toggle ≡ expected_pid s.sends → length x ≤ ask.limit) → s.left ≡ x ∷ rest
      → Moves o (heard_bytes (heard_of host (Bytes (expected_pid s.sends) x))) → got ≡ got_of Packets.In o (Bytes (expected_pid s.sends) x) → InStep packets (heard_by heard rest s) acc got after.toggle
  data_came heard x rest true on able left moves is = expected_came heard x rest (nat_le (length x) (limit_of host)) refl able left on moves is
  data_came heard x rest false off able left moves is = other_came heard x rest left off moves

  pub in_step : (reply : Reply) (later : Sender) → Moves o (heard_bytes (heard_of host reply)) → got ≡ got_of Packets.In o reply → Answers ask s reply later → InStep packets later acc got after.toggle
  in_step reply later moves is (nothing_heard r off) =
      none_more packets s acc got host.toggle after.toggle (not_taken host o got after (subst (Moves o) (none_heard host reply off) moves) leaves brings) half
  in_step reply later moves is (unacknowledged x rest left) = data_came false x rest (alike s.sends host.toggle) refl (λ e. absurd (false≢true e)) left moves is
  in_step reply later moves is (acknowledged x rest left few) = data_came true x rest (alike s.sends host.toggle) refl (λ e. few) left moves is

pub in_moves : (ask : Ask) (sent : ℕ) (last : Bool) (reply : Reply) (host : HostSide) → ask.split ≡ Splits.Plain → ask.pid ≡ Packets.In → Moves (outcome_of ask sent last reply host) (heard_bytes (heard_of host reply))
in_moves ask sent last reply host plain token = in_plain ask sent last reply host plain token
