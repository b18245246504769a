-- A bus below a hub shows the line of a control endpoint's request, whatever is asked on it in the direction of its host.
use Rattle.std.proofs.Common.{◌≡◌, ℕ, Bool, true, false, List, Option, Some, refl, sym, subst, ap, ◌∙◌}
use Rattle.usb_base.specs.declared.packets.Ask.{Ask}
use Rattle.usb_base.specs.declared.packets.Dir.{Dir}
use Rattle.usb_base.specs.declared.packets.Pid.TheVariants as Pids
use Rattle.usb_base.specs.declared.packets.Reply.{Reply}
use Rattle.usb_base.specs.declared.packets.Reply.TheVariants.{Silent, Hand}
use Rattle.dev_control.specs.declared.rows.StageRow.{StageRow}
use Rattle.dev_control.specs.declared.rows.StageRow.TheVariants.{Begins, Ignores, Naks, Sends, Takes, Drops, Acknowledges, Confirms, HasRoom, Stalls}
use Rattle.dev_control.specs.Stages.{Stages, stage_row, row_reply}
use Rattle.transactions.specs.Calls.{Call}
use Rattle.hub_keys.specs.Asks.{classic_of}
use Rattle.hub_keys.specs.Keys.{key_of, is_same_key}
use Rattle.hub_keys.specs.declared.key.Key.{Key}
use Rattle.tt_bulk.specs.Contents.{Taken}
use Rattle.bus_wire.specs.declared.who_heard.WhoHeard.{WhoHeard}
use Rattle.bus_wire.specs.declared.who_heard.WhoHeard.TheVariants as Rows
use Rattle.bus_wire.specs.Asking.{row_for}
use Rattle.bus_wire.specs.WhoHeard.{who_heard, is_answer as has_come, asker_hears}
use Rattle.bus_wire.specs.Fixed.{Fixed}
use Rattle.bus_wire.specs.Below.{Below}
use Rattle.claims_report.specs.Requests.{Request}
use Rattle.law_request.specs.Host.{Endpoint}
use Rattle.law_request.specs.Line.{reply_under, answer_of, device_after}
use Rattle.law_devices.specs.request_calls.Bus.{device_of, IsAnswered}
use Rattle.law_translated.specs.Lift.{Buffered, Wait, Slot, Asked, Split, Halves, Step, Run, stays, goes}
use Rattle.law_translated.specs.Lift.Step.{works, is_quiet, gives_dead}
use Rattle.law_translated.specs.KeySlots.{KeySlot}
use Rattle.law_translated.specs.KeySteps.{is_answer, KeyTurn}
use Rattle.law_translated.specs.KeySteps.KeyTurn.{rests as turn_rests, works as turn_works, is_quiet as turn_is_quiet, gives_dead as turn_gives_dead}
use Rattle.law_translated.specs.KeyLaws.{IsAskedFor}
use Rattle.law_translated.specs.KeyEvents.{Follows, mapped, with_slot}
use Rattle.law_translated.specs.Windows.{Line, Works, worked, window_halves}
use Rattle.law_translated.proofs.Keys.{same_as_itself}
use Rattle.law_below_hubs.specs.Raised.{transacts_below}
use Rattle.law_below_hubs.specs.RightAsks.{Rightly}
use Rattle.law_below_hubs.specs.SeatedControls.{control_on}
use Rattle.law_below_hubs.specs.ControlWork.{control_call, control_answer, control_key, IsInTurn, IsFit, AnswerFits, IsWorked, rests, makes}
use Rattle.law_below_hubs.proofs.LowBuses.{same_below}
use Rattle.law_below_hubs.proofs.InFollows.{key_is}
use Rattle.law_below_hubs.proofs.ControlBuses.{controls_on}

-- the device reads of an ask its token and its toggle alone
left_same : (e : Endpoint) (a : Taken) (c : Stages) (row : WhoHeard)
    → device_after e row (classic_of a.ask) a.packet c ≡ device_after e row (control_call a).ask a.packet c
left_same e a c Rows.SentUnheard = refl
left_same e a c Rows.NoAnswer = refl
left_same e a c Rows.AnswerUnheard = refl
left_same e a c Rows.AnswerHeard = refl
left_same e a c Rows.AckUnheard = refl
left_same e a c Rows.AckHeard = refl

-- it is silent, or what it says is a full- or low-speed device's
row_silent : (row : StageRow) (c : Stages) (reply : Option (List ℕ)) → is_answer Buffered (row_reply row reply c) ≡ false
    → row_reply row reply c ≡ Silent
row_silent (Begins setup) c reply h = absurd cc
row_silent Ignores c reply h = refl
row_silent Naks c reply h = absurd cc
row_silent Sends c reply h = absurd cc
row_silent (Takes to) c reply h = absurd cc
row_silent Drops c reply h = absurd cc
row_silent Acknowledges c reply h = absurd cc
row_silent Confirms c reply h = absurd cc
row_silent HasRoom c reply h = absurd cc
row_silent Stalls c reply h = absurd cc

silent_heard : (row : WhoHeard) (answer : Reply) → (is_answer Buffered answer ≡ false → answer ≡ Silent)
    → is_answer Buffered (asker_hears row answer) ≡ false → Silent ≡ asker_hears row answer
silent_heard Rows.SentUnheard answer only h = refl
silent_heard Rows.NoAnswer answer only h = refl
silent_heard Rows.AnswerUnheard answer only h = refl
silent_heard Rows.AnswerHeard answer only h = sym (only h)
silent_heard Rows.AckUnheard answer only h = sym (only h)
silent_heard Rows.AckHeard answer only h = sym (only h)

pub record ShowsControl (fixed : Fixed) (e : Endpoint) (w : Below) (l : Line) : Type 0 where
  pub same : w.fixed ≡ fixed
  pub control : control_on w e.addr e.num ≡ Some (device_of e l.window.device)

-- a machine that only follows the device
abbrev pub followed : Halves Line Taken Reply
followed = record {
  Is = λ l a. ⊥;
  Alone = λ l t. ⊥;
  Works = λ l a r t. Unit {0};
  Quiet = λ l a t. Unit {0};
  Hears = λ l a r t. ⊥;
  Spared = λ a r. ⊥;
  dead = λ way. Hand Pids.Stall;
}

module _ (fixed : Fixed) (e : Endpoint) (dir : Dir) where
  abbrev k : Key
  k = control_key e dir

  abbrev Shows : Below → Line → Type 0
  Shows = ShowsControl fixed e

  abbrev Asks : Below → Ask → List ℕ → Reply → Below → Type 0
  Asks = Rightly (IsInTurn k) transacts_below

  same_fixed : (w v : Below) (l : Line) (ask : Ask) (out : List ℕ) (r : Reply) → Shows w l → Asks w ask out r v → v.fixed ≡ fixed
  same_fixed w v l ask out r shows made = (same_below w v ask out made.0.after).fixed ∙ shows.same

  answered : (w : Below) (l : Line) (a : Taken) (r : Reply) (v : Below) → key_of a.ask ≡ k → Shows w l
      → Asks w (classic_of a.ask) a.packet r v
      → IsAnswered e (classic_of a.ask) a.packet l.window.device r (control_on v e.addr e.num)
  answered w l a r v own shows made =
      let addr : a.ask.addr ≡ e.addr = ap (λ (c : Key). c.addr) own in
      let ep : a.ask.ep ≡ e.num = ap (λ (c : Key). c.ep) own in
      controls_on.asked w (classic_of a.ask) a.packet r v e l.window.device made.0
      (record { plain = refl; token = (made.1 addr ep).token; address = sym addr; number = sym ep }) shows.control

  others : (w : Below) (l : Line) (ask : Ask) (out : List ℕ) (r : Reply) (v : Below) → is_same_key (key_of ask) k ≡ false → Shows w l
      → Asks w (classic_of ask) out r v → Shows v l
  others w l ask out r v apart shows made = record {
    same = same_fixed w v l (classic_of ask) out r shows made;
    control = controls_on.others w (classic_of ask) out r v e.addr e.num (device_of e l.window.device) made.0 shows.control
        (λ for_it.
        let addr : ask.addr ≡ e.addr = sym for_it.address in
        let ep : ask.ep ≡ e.num = sym for_it.number in
        let by = made.1 addr ep in
        let same : key_of ask ≡ k = key_is ask k addr ep by.dir by.kind in
        let on : is_same_key (key_of ask) k ≡ true =
        subst (λ (c : Key). is_same_key (key_of ask) c ≡ true) same (same_as_itself (key_of ask)) in
        let z : true ≡ false = sym on ∙ apart in cc);
  }

  -- the device moves on, whoever hears what
  moved : (w : Below) (l : Line) (a : Taken) (r : Reply) (v : Below) → key_of a.ask ≡ k → Shows w l
      → Asks w (classic_of a.ask) a.packet r v → (t : Line) × Unit {0} × Shows v t
  moved w l a r v own shows made =
      let h = answered w l a r v own shows made in (
        record l {
          window = record l.window {
            device = device_after e (row_for h.losses (classic_of a.ask) (answer_of e (classic_of a.ask) a.packet l.window.device))
                (classic_of a.ask) a.packet l.window.device;
          };
        },
        tt,
        record { same = same_fixed w v l (classic_of a.ask) a.packet r shows made; control = h.left },
      )

  pub control_follows : Follows followed (λ a. a) (λ r. r) Asks Buffered k Shows
  control_follows = record {
    works = λ w l a r v own shows made heard. moved w l a r v own shows made;
    quiet = λ w l a r v own shows made heard. moved w l a r v own shows made;
    others = others;
    dead = refl;
  }

  -- ---- the key's own transaction

  module _ (q : Request) where
    record WorksSo (l : Line) (a : Taken) (r : Reply) (v : Below) : Type 0 where
      line : Line
      row : WhoHeard
      line_is : line ≡ worked e row (control_call a) l
      works_so : Works e q l (control_call a) r line
      shown : Shows v line

    works_so_by : (w : Below) (l : Line) (a : Taken) (r : Reply) (v : Below) → key_of a.ask ≡ k → Shows w l
        → Asks w (classic_of a.ask) a.packet r v → IsFit e a l → WorksSo l a r v
    works_so_by w l a r v own shows made fit =
        let h = answered w l a r v own shows made in
        let c : Stages = l.window.device in
        let answer : Reply = answer_of e a.ask a.packet c in
        let row : WhoHeard = row_for h.losses (control_call a).ask answer in
        let same : row_for h.losses (classic_of a.ask) answer ≡ row =
        ap (λ (b : Bool). who_heard h.losses.sent (has_come answer) h.losses.answer b h.losses.acknowledgement) fit in
        record {
          line = worked e row (control_call a) l;
          row = row;
          line_is = refl;
          works_so = record { losses = h.losses; heard = h.heard ∙ ap (λ (x : WhoHeard). asker_hears x answer) same; after = refl };
          shown = record {
            same = same_fixed w v l (classic_of a.ask) a.packet r shows made;
            control = h.left
                ∙ ap (λ (x : WhoHeard). Some (device_of e (device_after e x (classic_of a.ask) a.packet c))) same
                ∙ ap (λ (d : Stages). Some (device_of e d)) (left_same e a c row);
          };
        }

    -- what the asker takes for nothing is silence
    silent_by : (l : Line) (a : Taken) (r : Reply) (t : Line) → Works e q l (control_call a) r t → is_answer Buffered r ≡ false → Silent ≡ r
    silent_by l a r t z heard =
        let c : Stages = l.window.device in
        let answer : Reply = answer_of e a.ask a.packet c in
        let row : WhoHeard = row_for z.losses (control_call a).ask answer in
        silent_heard row answer (row_silent (stage_row (reply_under e.known c.request) c a.ask a.packet) c (reply_under e.known c.request))
        (sym (ap (is_answer Buffered) z.heard) ∙ heard)
        ∙ sym z.heard

    abbrev At : Line → Wait → KeySlot → Slot Call Reply → Split Line Call Reply
    At = with_slot (window_halves e q) control_call control_answer

    one : (x y : Split Line Call Reply) → Step (window_halves e q) Buffered x y → Run (window_halves e q) Buffered x y
    one x y step = goes x y y step (stays y)

    pub record Turned (s : KeySlot) (l : Line) (u : Wait) (aside : Slot Call Reply) (new : KeySlot) (after : Below) : Type 0 where
      pub line : Line
      pub worked_so : IsWorked e s l line
      pub shown : ShowsControl fixed e after line
      pub run : Run (window_halves e q) Buffered (with_slot (window_halves e q) control_call control_answer l u s aside)
          (with_slot (window_halves e q) control_call control_answer line u new aside)

    asked : (s : KeySlot) (a : Taken) → s ≡ Asked a → IsAskedFor k s → key_of a.ask ≡ k
    asked s a is for_it = subst (λ (x : KeySlot). IsAskedFor k x) is for_it

    fits_so : (s : KeySlot) (a : Taken) (l : Line) → s ≡ Asked a → AnswerFits e s l → IsFit e a l
    fits_so s a l is fits = subst (λ (x : KeySlot). AnswerFits e x l) is fits

    quiet_so : (l t : Line) (a : Taken) (r : Reply) → Works e q l (control_call a) r t → is_answer Buffered r ≡ false
        → Works e q l (control_call a) Silent t
    quiet_so l t a r z heard = record { losses = z.losses; heard = silent_by l a r t z heard ∙ z.heard; after = z.after }

    pub turn : (s : KeySlot) (before : Below) (new : KeySlot) (after : Below) (l : Line) (u : Wait) (aside : Slot Call Reply)
        → KeyTurn Asks Buffered s before new after → IsAskedFor k s → AnswerFits e s l → Shows before l → Turned s l u aside new after
    turn s before _ _ l u aside turn_rests for_it fits at = record { line = l; worked_so = rests; shown = at; run = stays _ }
    turn s before _ _ l u aside (turn_works a r after is made heard) for_it fits at =
        let z = works_so_by before l a r after (asked s a is for_it) at made (fits_so s a l is fits) in
        record {
          line = z.line;
          worked_so = subst (IsWorked e s l) (sym z.line_is) (makes a z.row is);
          shown = z.shown;
          run = one _ _ (works (control_call a) r z.line (ap (mapped control_call control_answer) is) z.works_so);
        }
    turn s before _ _ l u aside (turn_is_quiet a r after buffered is made silent) for_it fits at =
        let z = works_so_by before l a r after (asked s a is for_it) at made (fits_so s a l is fits) in
        record {
          line = z.line;
          worked_so = subst (IsWorked e s l) (sym z.line_is) (makes a z.row is);
          shown = z.shown;
          run = one _ _ (is_quiet (control_call a) z.line (ap (mapped control_call control_answer) is)
              (quiet_so l z.line a r z.works_so silent));
        }
    turn s before _ _ l u aside (turn_gives_dead a r after is made silent) for_it fits at =
        let z = works_so_by before l a r after (asked s a is for_it) at made (fits_so s a l is fits) in
        record {
          line = z.line;
          worked_so = subst (IsWorked e s l) (sym z.line_is) (makes a z.row is);
          shown = z.shown;
          run = goes _ (At z.line u s aside) _
              (is_quiet (control_call a) z.line (ap (mapped control_call control_answer) is) (quiet_so l z.line a r z.works_so silent))
              (one _ _ (gives_dead (control_call a) (ap (mapped control_call control_answer) is)));
        }
