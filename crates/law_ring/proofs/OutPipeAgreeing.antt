-- Each event keeps both sides of the pipe of an OUT endpoint agreed.
use Rattle.std.proofs.Common.{◌≡◌, ◌≢◌, ℕ, ◌-◌, min, Bool, true, false, not, if◌then◌else◌, List, [], ◌++◌, length, take, drop, None, ap, refl, sym, subst, ◌∙◌, inl, inr}
use Rattle.std.specs.Prelude.{◌⊎◌}
use Rattle.std.proofs.lemmas.Bool.{false≢true}
use Rattle.std.proofs.lemmas.List.{append-nil}
use Rattle.law_common.proofs.Booleans.{not_itself}
use Rattle.law_ring.proofs.Common.{plain_split}
use Rattle.usb_base.specs.declared.packets.Ask.{Ask}
use Rattle.usb_base.specs.declared.packets.EpKind.{EpKind}
use Rattle.usb_base.specs.declared.packets.EpKind.TheVariants as Kinds
use Rattle.usb_base.specs.declared.packets.Pid.TheVariants as Packets
use Rattle.usb_base.specs.declared.packets.Reply.{Reply}
use Rattle.usb_base.specs.declared.packets.Speed.TheVariants.{High}
use Rattle.usb_base.specs.declared.packets.Split.{Split}
use Rattle.usb_base.specs.declared.packets.Split.TheVariants as Splits
use Rattle.qh_qtd.specs.declared.qtd.Qtd.{Qtd}
use Rattle.qh_qtd.specs.declared.queue_head.Qh.{Qh}
use Rattle.toggle_error.specs.declared.host.Outcome.{Outcome}
use Rattle.toggle_error.specs.declared.rows.AskToken.TheVariants as tokens
use Rattle.toggle_error.specs.Columns.{expected_pid, limit_of, out_token}
use Rattle.transactions.specs.Asks.{pinged, token_pid}
use Rattle.hc_copy.specs.Overlay.{buffer_place}
use Rattle.hc_copy.specs.Planning.{pid_at, speed_at, host_in, carries, transaction_of}
use Rattle.hc_copy.specs.Transacting.{call_in}
use Rattle.async_walk.specs.Naks.{kind_at}
use Rattle.law_structures.specs.lent_structures.Settles.{is_moved}
use Rattle.law_structures.proofs.lemmas.lent_structures.Moving.{Moves}
use Rattle.law_structures.specs.lent_structures.Structures.{Structures}
use Rattle.law_structures.proofs.lemmas.lent_structures.Altering.{found_element}
use Rattle.law_ring.specs.Hand.{Hand}
use Rattle.law_ring.specs.Effects.{buffer_of, IsAskedAs, in_ring, in_frames}
use Rattle.law_ring.specs.OutBus.{Taker, is_acknowledgement, took, Takes, nothing_taken, all_taken, all_dropped}
use Rattle.law_ring.specs.OutPipes.{IsNext, IsUnmoved, OutAgrees, level, ahead, ended}

-- ---- toggles

pid_same : (a b : Bool) → expected_pid a ≡ expected_pid b → a ≡ b
pid_same true true e = refl
pid_same false false e = refl
pid_same true false e = cc
pid_same false true e = cc

the_other : (a b : Bool) → a ≢ b → b ≡ not a
the_other true false e = refl
the_other false true e = refl
the_other true true e = absurd (e refl)
the_other false false e = absurd (e refl)

-- two next packets are one
next_same : (part : Structures) (q : Qh) (x y : List ℕ) → IsNext part q x → IsNext part q y → x ≡ y
next_same part q x y one other =
    one.is ∙ ap (λ (t : Qtd). take (min q.max q.token.total) (drop (buffer_place q - t.offset) (buffer_of part t))) (found_element (part q.current) one.element other.element one.here other.here) ∙ sym other.is

-- ---- a transaction, by what it did

-- what it left: the bytes known now, the toggle, and the device
record OutStep (part : Structures) (later : Hand) (n : ℕ) (q : Qh) (h : Bool) (known : List ℕ) (s : Taker) : Type 0 where
  agrees : OutAgrees part later n q h known s

module _ (part : Structures) (hand later : Hand) (n : ℕ) (q : Qh) (h now : Bool) (known moved out : List ℕ) (s : Taker) (own : h ≡ q.token.toggle) (on : q.token.active ≡ true) (next : IsNext part q out) (un : (now ≡ h) → IsUnmoved later n) where
  -- nothing reached it that it took, and the host knows of nothing more
  pub still_agrees : now ≡ h → moved ≡ [] → OutAgrees part hand n q h known s → OutAgrees part later n q now (known ++ moved) s
  still_agrees unturned none k =
      subst (λ (b : Bool). OutAgrees part later n q b (known ++ moved) s) (sym unturned) (subst (λ (xs : List ℕ). OutAgrees part later n q h xs s) (sym (ap (λ (xs : List ℕ). known ++ xs) none ∙ append-nil known)) (by k))
    where
      by : OutAgrees part hand n q h known s → OutAgrees part later n q h known s
      by (level e t) = level e t
      by (ahead x e t same_toggle active old still) = ahead x e t same_toggle active old (un unturned)
      by (ended x e t off halted) = ended x e t off halted

  -- it took the packet, and the host doesn't know
  taken_unheard : now ≡ h → moved ≡ [] → s.expects ≡ h → OutAgrees part hand n q h known s → OutAgrees part later n q now (known ++ moved) (took out s)
  taken_unheard unturned none e k =
      subst (λ (b : Bool). OutAgrees part later n q b (known ++ moved) (took out s)) (sym unturned)
      (subst (λ (xs : List ℕ). OutAgrees part later n q h xs (took out s)) (sym (ap (λ (xs : List ℕ). known ++ xs) none ∙ append-nil known)) (by k))
    where
      by : OutAgrees part hand n q h known s → OutAgrees part later n q h known (took out s)
      by (level f t) = ahead out (ap not e) (ap (λ (xs : List ℕ). xs ++ out) t) own on next (un unturned)
      by (ahead x f t same_toggle active old still) = absurd (not_itself h (sym e ∙ f))
      by (ended x f t off halted) = absurd (not_itself h (sym e ∙ f))

  -- it took the packet, and the host knows
  taken_heard : now ≡ not h → moved ≡ out → s.expects ≡ h → OutAgrees part hand n q h known s → OutAgrees part later n q now (known ++ moved) (took out s)
  taken_heard turned is e (level f t) = level (ap not e ∙ sym turned) (ap (λ (xs : List ℕ). xs ++ out) t ∙ ap (λ (xs : List ℕ). known ++ xs) (sym is))
  taken_heard turned is e (ahead x f t same_toggle active old still) = absurd (not_itself h (sym e ∙ f))
  taken_heard turned is e (ended x f t off halted) = absurd (not_itself h (sym e ∙ f))

  -- it dropped the packet, which it took before, and the host knows now
  dropped_heard : now ≡ not h → moved ≡ out → s.expects ≡ not h → OutAgrees part hand n q h known s → OutAgrees part later n q now (known ++ moved) s
  dropped_heard turned is e (level f t) = absurd (not_itself h (sym f ∙ e))
  dropped_heard turned is e (ahead x f t same_toggle active old still) =
      level (e ∙ sym turned) (t ∙ ap (λ (xs : List ℕ). known ++ xs) (next_same part q x out old next ∙ sym is))
  dropped_heard turned is e (ended x f t off halted) = absurd (false≢true (sym off ∙ on))

  -- ---- by what the host heard

  pub out_step : (ask : Ask) (reply : Reply) (after : Taker) (b : Bool) → (b ≡ true → is_acknowledgement reply ≡ true)
      → ask.toggle ≡ expected_pid h → now ≡ (if b then not h else h) → moved ≡ (if b then out else []) → Takes ask out s reply after
      → OutAgrees part hand n q h known s → OutAgrees part later n q now (known ++ moved) after
  out_step ask reply after true acked toggle turned is (nothing_taken r off) k = absurd (false≢true (sym off ∙ acked refl))
  out_step ask reply after true acked toggle turned is (all_taken r expected) k = taken_heard turned is (sym (pid_same h s.expects (sym toggle ∙ expected))) k
  out_step ask reply after true acked toggle turned is (all_dropped r other) k = dropped_heard turned is (the_other h s.expects (λ (e : h ≡ s.expects). other (toggle ∙ ap expected_pid e))) k
  out_step ask reply after false acked toggle turned is (all_taken r expected) k = taken_unheard turned is (sym (pid_same h s.expects (sym toggle ∙ expected))) k
  out_step ask reply after false acked toggle turned is _ k = still_agrees turned is k

-- ---- the transaction of an OUT

-- the token that goes out, by the ping state
pinged_by : (dtc ping : Bool) → pinged (kind_at dtc) ping ≡ (if ping then Packets.Ping else Packets.Out)
pinged_by true true = refl
pinged_by true false = refl
pinged_by false true = refl
pinged_by false false = refl

pinged_as : (q : Qh) (kind : EpKind) (last : Bool) → IsAskedAs q kind last
    → pinged kind q.token.ping ≡ (if q.token.ping then Packets.Ping else Packets.Out)
pinged_as q _ _ in_ring = pinged_by q.dtc q.token.ping
pinged_as q _ _ (in_frames last) = by q.token.ping
  where
    by : (b : Bool) → pinged Kinds.Interrupt b ≡ (if b then Packets.Ping else Packets.Out)
    by true = refl
    by false = refl

-- whether there is a ping state
pub out_token_by : (dtc : Bool) → out_token High (kind_at dtc) ≡ tokens.PingedOut
out_token_by true = refl
out_token_by false = refl

pub out_token_as : (q : Qh) (kind : EpKind) (last : Bool) → IsAskedAs q kind last
    → (out_token High kind ≡ tokens.PingedOut) ⊎ (out_token High kind ≡ tokens.Out)
out_token_as q _ _ in_ring = inl (out_token_by q.dtc)
out_token_as q _ _ (in_frames last) = inr refl

unmoved_by : (o : Outcome) → Moves o None → is_moved o ≡ false
unmoved_by o m = m.1

-- what is known of the transaction
pub record IsOutCall (kind : EpKind) (q : Qh) (out : List ℕ) (last : Bool) : Type 0 where
  pub plain : (call_in (transaction_of kind q) out last).ask.split ≡ Splits.Plain
  pub pid : (call_in (transaction_of kind q) out last).ask.pid ≡ (if q.token.ping then Packets.Ping else Packets.Out)
  pub speed : (call_in (transaction_of kind q) out last).ask.speed ≡ High

pub out_call : (kind : EpKind) (q : Qh) (out : List ℕ) (last : Bool) → IsAskedAs q kind last → q.eps ≡ 2 → q.token.pid ≡ 0
    → IsOutCall kind q out last
out_call kind q out last asked_as high is =
    let plain : (transaction_of kind q).split ≡ Splits.Plain = plain_split q.eps q.token.split_state (transaction_of kind q).pipe high in
    record {
      plain = plain;
      pid = ap (λ (s : Split). token_pid s (pid_at q.token.pid) (pinged kind q.token.ping)) plain ∙ ap
          (λ (c : ℕ). token_pid Splits.Plain (pid_at c) (pinged kind q.token.ping)) is ∙ pinged_as q kind last asked_as;
      speed = ap speed_at high;
    }

-- an OUT that isn't pinged carries the whole next packet
pub bytes_are : (kind : EpKind) (q : Qh) → q.eps ≡ 2 → q.token.pid ≡ 0 → q.token.ping ≡ false
    → (transaction_of kind q).bytes ≡ min q.max q.token.total
bytes_are kind q high is off =
    let plain : (transaction_of kind q).split ≡ Splits.Plain = plain_split q.eps q.token.split_state (transaction_of kind q).pipe high in
    ap (λ (s : Split). if carries s (pid_at q.token.pid) q.token.ping then limit_of (host_in q) else 0) plain
    ∙ ap (λ (c : ℕ). if carries Splits.Plain (pid_at c) q.token.ping then limit_of (host_in q) else 0) is
    ∙ ap (λ (b : Bool). if not b then limit_of (host_in q) else 0) off

pub take_whole : (n : ℕ) (xs ys : List ℕ) → xs ≡ take n ys → length xs ≡ n → take (length xs) ys ≡ xs
take_whole n xs ys is long = ap (λ (i : ℕ). take i ys) long ∙ sym is
