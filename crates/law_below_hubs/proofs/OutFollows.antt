-- A bus below a hub shows the line of an OUT endpoint, whatever is asked on it.
use Rattle.std.proofs.Common.{◌≡◌, ℕ, Bool, true, false, not, List, ◌∷◌, ◌++◌, length, Option, Some, refl, sym, subst, ap, ◌∙◌}
use Rattle.law_common.proofs.Lists.{concat_last}
use Rattle.usb_base.specs.declared.packets.Ask.{Ask}
use Rattle.usb_base.specs.declared.packets.Dir.TheVariants as Directions
use Rattle.usb_base.specs.declared.packets.Pid.{Pid}
use Rattle.usb_base.specs.declared.packets.Pid.TheVariants as Pids
use Rattle.usb_base.specs.declared.packets.Reply.{Reply}
use Rattle.usb_base.specs.declared.packets.Reply.TheVariants.{Silent, Hand}
use Rattle.usb_base.specs.declared.packets.Speed.{Speed}
use Rattle.usb_base.specs.declared.packets.Speed.TheVariants as Speeds
use Rattle.toggle_error.specs.Columns.{expected_pid}
use Rattle.script_types.specs.declared.devices.Item.{Item}
use Rattle.script_types.specs.declared.devices.Item.TheVariants as Items
use Rattle.dev_control.specs.declared.rows.Sequence.{Sequence}
use Rattle.dev_control.specs.declared.rows.Sequence.TheVariants.{Next, Repeat}
use Rattle.dev_control.specs.Stages.{sequence_of}
use Rattle.endpoint_script.specs.Taking.{Taking, is_ping, next_row, out_row, take_row, has_room, row_reply, after_taking_row, taking_reply, taking_answered, last_hand}
use Rattle.hub_keys.specs.Asks.{classic_of}
use Rattle.hub_keys.specs.Keys.{key_of, is_same_key, direction_of}
use Rattle.hub_keys.specs.declared.key.Key.{Key}
use Rattle.tt_bulk.specs.Contents.{Taken}
use Rattle.bus_wire.specs.declared.who_heard.WhoHeard.{WhoHeard}
use Rattle.bus_wire.specs.declared.who_heard.WhoHeard.TheVariants as Rows
use Rattle.bus_wire.specs.Fixed.{Fixed}
use Rattle.bus_wire.specs.WhoHeard.{asker_hears}
use Rattle.bus_wire.specs.Below.{Below}
use Rattle.law_ring.specs.OutBus.{Taker}
use Rattle.law_devices.proofs.lemmas.scripted_takers.Taking.{taker_in, taker_by}
use Rattle.law_pipe.specs.Pipe.{alike}
use Rattle.law_translated.specs.Lift.{Way, Buffered, Piped}
use Rattle.law_translated.specs.OutPipes.{Line, Works, Quiet, out_halves, with_taken, dead}
use Rattle.law_translated.specs.OutPipes as Pipe
use Rattle.law_translated.specs.OutPipes.Works.{accepts, drops, refuses, stalls}
use Rattle.law_translated.specs.OutPipes.Quiet.{unheard as not_heard, accepts_unheard}
use Rattle.law_translated.specs.KeySteps.{is_answer, dead_reply}
use Rattle.law_translated.specs.KeyEvents.{Follows}
use Rattle.law_translated.proofs.Keys.{same_as_itself}
use Rattle.law_below_hubs.specs.Raised.{transacts_below}
use Rattle.law_below_hubs.specs.Seated.{taker_on}
use Rattle.law_below_hubs.specs.RightAsks.{Rightly}
use Rattle.law_below_hubs.specs.HubsKeys.{is_second, IsOfKind}
use Rattle.law_below_hubs.specs.OutWork.{IsPacket, IsPut, out_asked, out_answer, taker_of_line, ShowsTaker}
use Rattle.law_below_hubs.proofs.LowBuses.{same_below, all_takers_below}
use Rattle.law_below_hubs.proofs.TakerAsked.{OutHeard, unheard, heard, taker_heard}
use Rattle.law_below_hubs.proofs.InFollows.{always, key_is, second_of}

-- ---- what a packet does to the device, and its answer

-- the answer and what the device is left as, for a packet with this toggle
data Outcome (t : Taking) (b : Bool) (out : List ℕ) : Reply → Taker → Type 0 where
  dropped : alike b t.toggle ≡ false → Outcome t b out (Hand Pids.Ack) (taker_in t)
  refused : Outcome t b out (Hand Pids.Nak) (taker_in t)
  stalled : Outcome t b out (Hand Pids.Stall) (taker_in t)
  taken : (r : Reply) → out_answer r ≡ Pipe.Ack → alike b t.toggle ≡ true
      → Outcome t b out r (record { taken = t.taken ++ out; expects = not t.toggle })

last_is_ack : (speed : Speed) → out_answer (last_hand speed) ≡ Pipe.Ack
last_is_ack Speeds.High = refl
last_is_ack Speeds.Full = refl
last_is_ack Speeds.Low = refl

next_outcome : (speed : Speed) (t : Taking) (b : Bool) (out : List ℕ) (items : List Item) (fits : Bool) → alike b t.toggle ≡ true
    → Outcome t b out (row_reply speed (next_row items fits)) (taker_in (after_taking_row (next_row items fits) out t))
next_outcome speed t b out (Items.Nak n ∷ items) fits is = refused
next_outcome speed t b out (Items.Stall ∷ items) fits is = stalled
next_outcome speed t b out (Items.Nyet ∷ items) true is = taken (last_hand speed) (last_is_ack speed) is
next_outcome speed t b out (Items.Nyet ∷ items) false is = refused
next_outcome speed t b out _ true is = taken (Hand Pids.Ack) refl is
next_outcome speed t b out _ false is = refused

sequence_next : (b toggle : Bool) → alike b toggle ≡ true → sequence_of toggle (expected_pid b) ≡ Next
sequence_next true true h = refl
sequence_next false false h = refl
sequence_next true false h = absurd cc
sequence_next false true h = absurd cc

sequence_repeat : (b toggle : Bool) → alike b toggle ≡ false → sequence_of toggle (expected_pid b) ≡ Repeat
sequence_repeat true false h = refl
sequence_repeat false true h = refl
sequence_repeat true true h = absurd cc
sequence_repeat false false h = absurd cc

by_toggle : (speed : Speed) (t : Taking) (b : Bool) (out : List ℕ) (same : Bool) → alike b t.toggle ≡ same
    → Outcome t b out (row_reply speed (out_row (sequence_of t.toggle (expected_pid b)) t.items (has_room t (length out))))
    (taker_in (after_taking_row (out_row (sequence_of t.toggle (expected_pid b)) t.items (has_room t (length out))) out t))
by_toggle speed t b out true is =
    subst (λ (q : Sequence). Outcome t b out (row_reply speed (out_row q t.items (has_room t (length out))))
    (taker_in (after_taking_row (out_row q t.items (has_room t (length out))) out t)))
    (sym (sequence_next b t.toggle is)) (next_outcome speed t b out t.items (has_room t (length out)) is)
by_toggle speed t b out false is =
    subst (λ (q : Sequence). Outcome t b out (row_reply speed (out_row q t.items (has_room t (length out))))
    (taker_in (after_taking_row (out_row q t.items (has_room t (length out))) out t)))
    (sym (sequence_repeat b t.toggle is)) (dropped is)

outcome : (speed : Speed) (t : Taking) (ask : Ask) (out : List ℕ) (p : IsPacket ask)
    → Outcome t p.second out (taking_reply speed t ask out) (taker_in (taking_answered t ask out))
outcome speed t ask out p =
    subst (λ (pid : Pid). Outcome t p.second out (row_reply speed (take_row (is_ping pid) t (sequence_of t.toggle ask.toggle) (length out)))
    (taker_in (after_taking_row (take_row (is_ping pid) t (sequence_of t.toggle ask.toggle) (length out)) out t))) (sym p.token)
    (subst (λ (pid : Pid). Outcome t p.second out (row_reply speed (out_row (sequence_of t.toggle pid) t.items (has_room t (length out))))
    (taker_in (after_taking_row (out_row (sequence_of t.toggle pid) t.items (has_room t (length out))) out t))) (sym p.toggle)
    (by_toggle speed t p.second out (alike p.second t.toggle) refl))

-- ---- as halves of the pipe

module _ (l : Line) (b : Bool) (out : List ℕ) (t : Taking) (same : taker_of_line l ≡ taker_in t) where
  expects_is : t.toggle ≡ l.expects
  expects_is = sym (ap (λ (s : Taker). s.expects) same)

  -- where the device took it, the line has it
  took_is : record { taken = t.taken ++ out; expects = not t.toggle } ≡ taker_of_line (with_taken out l)
  took_is =
      ap (λ (s : Taker). record { taken = s.taken ++ out; expects = not s.expects }) (sym same)
      ∙ ap (λ (xs : List ℕ). record { taken = xs; expects = not l.expects }) (sym (concat_last l.taken out))

  record WorksWith (r : Reply) (s : Taker) : Type 0 where
    line : Line
    works : Works l (Pipe.Out b out) (out_answer r) line
    is : s ≡ taker_of_line line

  works_by : (r : Reply) (s : Taker) → Outcome t b out r s → WorksWith r s
  works_by _ _ (dropped differs) =
      record { line = l; works = drops b out (sym (ap (λ (x : Bool). alike b x) expects_is) ∙ differs); is = sym same }
  works_by _ _ refused = record { line = l; works = refuses b out; is = sym same }
  works_by _ _ stalled = record { line = l; works = stalls b out; is = sym same }
  works_by r _ (taken _ ack on) = record {
    line = with_taken out l;
    works = subst (λ (q : Pipe.Reply). Works l (Pipe.Out b out) q (with_taken out l)) (sym ack)
        (accepts b out (sym (ap (λ (x : Bool). alike b x) expects_is) ∙ on));
    is = took_is;
  }

  record QuietWith (s : Taker) : Type 0 where
    line : Line
    quiet : Quiet l (Pipe.Out b out) line
    is : s ≡ taker_of_line line

  quiet_by : (r : Reply) (s : Taker) → Outcome t b out r s → QuietWith s
  quiet_by _ _ (dropped differs) = record { line = l; quiet = not_heard b out; is = sym same }
  quiet_by _ _ refused = record { line = l; quiet = not_heard b out; is = sym same }
  quiet_by _ _ stalled = record { line = l; quiet = not_heard b out; is = sym same }
  quiet_by r _ (taken _ ack on) =
      record { line = with_taken out l; quiet = accepts_unheard b out (sym (ap (λ (x : Bool). alike b x) expects_is) ∙ on); is = took_is }

silence_none : (way : Way) {P : Type 0} → is_answer way Silent ≡ true → P
silence_none Buffered h = absurd cc
silence_none Piped h = absurd cc

module _ (fixed : Fixed) (k : Key) (outward : k.dir ≡ Directions.Out) where
  abbrev Shows : Below → Line → Type 0
  Shows = ShowsTaker fixed k

  abbrev Asks : Below → Ask → List ℕ → Reply → Below → Type 0
  Asks = Rightly (IsPut k) transacts_below

  packet_of : (a : Taken) → key_of a.ask ≡ k → IsPut k (classic_of a.ask) → IsPacket (classic_of a.ask)
  packet_of a own put = put.packet (ap (λ (c : Key). c.dir) own) (ap (λ (c : Key). c.addr) own) (ap (λ (c : Key). c.ep) own)

  second_is : (a : Taken) (p : IsPacket (classic_of a.ask)) → is_second a.ask.toggle ≡ p.second
  second_is a p = ap is_second p.toggle ∙ second_of p.second

  answered : (w : Below) (l : Line) (a : Taken) (r : Reply) (v : Below) → key_of a.ask ≡ k → Shows w l
      → Asks w (classic_of a.ask) a.packet r v
      → OutHeard (classic_of a.ask) a.packet (taker_of_line l) r (taker_on v k.addr k.ep)
  answered w l a r v own shows made =
      let addr : a.ask.addr ≡ k.addr = ap (λ (c : Key). c.addr) own in
      let ep : a.ask.ep ≡ k.ep = ap (λ (c : Key). c.ep) own in
      let here : taker_on w a.ask.addr a.ask.ep ≡ Some (taker_of_line l) =
      ap (λ (x : ℕ). taker_on w x a.ask.ep) addr ∙ ap (taker_on w k.addr) ep ∙ shows.taker in
      subst (λ (x : Option Taker). OutHeard (classic_of a.ask) a.packet (taker_of_line l) r x)
      (ap (λ (x : ℕ). taker_on v x a.ask.ep) addr ∙ ap (taker_on v k.addr) ep)
      (taker_heard w (classic_of a.ask) a.packet r v (taker_of_line l) made.0 (packet_of a own made.1).token here)

  same_fixed : (w v : Below) (l : Line) (ask : Ask) (out : List ℕ) (r : Reply) → Shows w l → Asks w ask out r v → v.fixed ≡ fixed
  same_fixed w v l ask out r shows made = (same_below w v ask out made.0.after).fixed ∙ shows.same

  -- what was heard is what the device answered, or nothing
  works_heard : (l : Line) (a : Taken) (p : IsPacket (classic_of a.ask)) (way : Way) (v : Below) (r : Reply) (o : Option Taker)
      → OutHeard (classic_of a.ask) a.packet (taker_of_line l) r o → is_answer way r ≡ true → v.fixed ≡ fixed → taker_on v k.addr k.ep ≡ o
      → (m : Line) × Works l (out_asked a) (out_answer r) m × Shows v m
  works_heard l a p way v _ _ unheard on same at = silence_none way on
  works_heard l a p way v _ _ (heard speed t row is) on same at = by row on at
    where
      z : WorksWith l p.second a.packet t is (taking_reply speed t (classic_of a.ask) a.packet)
          (taker_in (taking_answered t (classic_of a.ask) a.packet))
      z = works_by l p.second a.packet t is (taking_reply speed t (classic_of a.ask) a.packet)
          (taker_in (taking_answered t (classic_of a.ask) a.packet))
          (outcome speed t (classic_of a.ask) a.packet p)

      told : taker_on v k.addr k.ep ≡ Some (taker_in (taking_answered t (classic_of a.ask) a.packet))
          → (m : Line) × Works l (out_asked a) (out_answer (taking_reply speed t (classic_of a.ask) a.packet)) m × Shows v m
      told later = (
        z.line,
        subst (λ (b : Bool). Works l (Pipe.Out b a.packet) (out_answer (taking_reply speed t (classic_of a.ask) a.packet)) z.line)
            (sym (second_is a p)) z.works,
        record { same = same; taker = later ∙ ap (λ (s : Taker). Some s) z.is },
      )

      by : (row : WhoHeard) → is_answer way (asker_hears row (taking_reply speed t (classic_of a.ask) a.packet)) ≡ true
          → taker_on v k.addr k.ep ≡ taker_by row (classic_of a.ask) a.packet t
          → (m : Line) × Works l (out_asked a) (out_answer (asker_hears row (taking_reply speed t (classic_of a.ask) a.packet))) m
          × Shows v m
      by Rows.SentUnheard on at = silence_none way on
      by Rows.NoAnswer on at = silence_none way on
      by Rows.AnswerUnheard on at = silence_none way on
      by Rows.AnswerHeard on at = told at
      by Rows.AckUnheard on at = told at
      by Rows.AckHeard on at = told at

  quiet_heard : (l : Line) (a : Taken) (p : IsPacket (classic_of a.ask)) (v : Below) (r : Reply) (o : Option Taker)
      → OutHeard (classic_of a.ask) a.packet (taker_of_line l) r o → v.fixed ≡ fixed → taker_on v k.addr k.ep ≡ o
      → (m : Line) × Quiet l (out_asked a) m × Shows v m
  quiet_heard l a p v _ _ unheard same at = (l, not_heard (is_second a.ask.toggle) a.packet, record { same = same; taker = at })
  quiet_heard l a p v _ _ (heard speed t row is) same at = by row at
    where
      z : QuietWith l p.second a.packet t is (taker_in (taking_answered t (classic_of a.ask) a.packet))
      z = quiet_by l p.second a.packet t is (taking_reply speed t (classic_of a.ask) a.packet)
          (taker_in (taking_answered t (classic_of a.ask) a.packet))
          (outcome speed t (classic_of a.ask) a.packet p)

      told : taker_on v k.addr k.ep ≡ Some (taker_in (taking_answered t (classic_of a.ask) a.packet))
          → (m : Line) × Quiet l (out_asked a) m × Shows v m
      told later = (
        z.line,
        subst (λ (b : Bool). Quiet l (Pipe.Out b a.packet) z.line) (sym (second_is a p)) z.quiet,
        record { same = same; taker = later ∙ ap (λ (s : Taker). Some s) z.is },
      )

      by : (row : WhoHeard) → taker_on v k.addr k.ep ≡ taker_by row (classic_of a.ask) a.packet t
          → (m : Line) × Quiet l (out_asked a) m × Shows v m
      by Rows.SentUnheard at =
          (l, not_heard (is_second a.ask.toggle) a.packet, record { same = same; taker = at ∙ ap (λ (s : Taker). Some s) (sym is) })
      by Rows.NoAnswer at = told at
      by Rows.AnswerUnheard at = told at
      by Rows.AnswerHeard at = told at
      by Rows.AckUnheard at = told at
      by Rows.AckHeard at = told at

  pub out_follows : (way : Way) → Follows out_halves out_asked out_answer Asks way k Shows
  out_follows way = record {
    works = λ w l a r v own shows made on.
        works_heard l a (packet_of a own made.1) way v r (taker_on v k.addr k.ep) (answered w l a r v own shows made) on
        (same_fixed w v l (classic_of a.ask) a.packet r shows made) refl;
    quiet = λ w l a r v own shows made off.
        quiet_heard l a (packet_of a own made.1) v r (taker_on v k.addr k.ep) (answered w l a r v own shows made)
        (same_fixed w v l (classic_of a.ask) a.packet r shows made) refl;
    others = λ w l ask out r v apart shows made. record {
      same = same_fixed w v l (classic_of ask) out r shows made;
      taker = (all_takers_below always).others w (classic_of ask) out r v k.addr k.ep (taker_of_line l) made.0 refl shows.taker
          (λ s at. own_key ask apart s.token at.0 at.1 made.1.kind);
    };
    dead = dies way;
  }
    where
      dies : (way : Way) → out_answer (dead_reply way) ≡ dead way
      dies Buffered = refl
      dies Piped = refl

      own_key : (ask : Ask) → is_same_key (key_of ask) k ≡ false → ask.pid ≡ Pids.Out → k.addr ≡ ask.addr → k.ep ≡ ask.ep
          → IsOfKind k (classic_of ask) → ⊥
      own_key ask apart token addr ep kind =
          let dir : direction_of ask.pid ≡ k.dir = ap direction_of token ∙ sym outward in
          let same : key_of ask ≡ k = key_is ask k (sym addr) (sym ep) dir (kind dir (sym addr) (sym ep)) in
          let on : is_same_key (key_of ask) k ≡ true =
          subst (λ (c : Key). is_same_key (key_of ask) c ≡ true) same (same_as_itself (key_of ask)) in
          let z : true ≡ false = sym on ∙ apart in cc
