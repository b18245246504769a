-- Events in a row.
use Rattle.std.proofs.Common.{◌≡◌, ◌≢◌, ℕ, ◌+◌, Bool, true, false, ◌||◌, not, ◌≤◌, List, [], ◌∷◌, Option, None, Some, refl, ap, sym, subst, ◌∙◌, ⊎_elim}
use Rattle.std.specs.Prelude.{is_some}
use Rattle.std.proofs.lemmas.Bool.{cases_eq, true≢false, false≢true}
use Rattle.word_mem.specs.Memory.{all_lent}
use Rattle.lent_words.specs.Lent.{lent_mem}
use Rattle.op_registers.specs.RegisterFile.{RegisterFile}
use Rattle.async_walk.specs.Causes.{AreRefusalsFaults}
use Rattle.hc_core.specs.declared.controller.HcStep.{HcStep}
use Rattle.hc_core.specs.Controller.{Content, Control, content, address_in_hand, microframe_row, kind_of}
use Rattle.hc_microframe.specs.declared.answers.Answer.{Answer}
use Rattle.hc_microframe.specs.declared.answers.Wanted.{Wanted}
use Rattle.hc_microframe.specs.declared.several.RunStop.{RunStop}
use Rattle.hc_microframe.specs.declared.several.RunStop.TheVariants as stops
use Rattle.hc_microframe.specs.declared.whole.Whole.{Whole}
use Rattle.hc_microframe.specs.Answers.{Told}
use Rattle.hc_microframe.specs.State.{shown, file_of}
use Rattle.hc_microframe.specs.Microframe.{IsEvent, is_end, Goes}
use Rattle.hc_microframe.specs.Microframe.Goes.{next}
use Rattle.hc_microframe.specs.Numbers.{control_of}
use Rattle.hc_microframe.specs.Stepping.{opening}
use Rattle.hc_microframe.specs.Several.{ReachesEnd, ReachesAsk, IsRun, IsRunOver, IsRunHeldUp, Leaves, MakesNext, AsksNext}
use Rattle.hc_microframe.proofs.Going.{nothing_wanted}
use Rattle.hc_microframe.proofs.Once.{asks_once}
use Rattle.hc_microframe.proofs.Emptied.{none_after}
use Rattle.hc_microframe.proofs.HeldUp.{held_up_keeps}
use Rattle.hc_microframe.proofs.InHand.{asks_in_hand}

-- ---- one event

some_wanted : (wanted : Option Wanted) → is_some wanted ≡ true → wanted ≢ None
some_wanted None some none = false≢true some
some_wanted (Some w) some none = cc

answers_gone : (old new : Content) (answers : List Answer) (bytes : List ℕ) (wanted : Option Wanted) (after : Told) → wanted ≡ None
    → IsEvent old (record { answers = answers; bytes = bytes; wanted = wanted }) new after → is_some after.wanted ≡ true → answers ≡ []
answers_gone old new [] bytes wanted after none e some = refl
answers_gone old new (a ∷ rest) bytes wanted after none e some =
    let at_hand : IsEvent old (record { answers = a ∷ rest; bytes = bytes; wanted = None }) new after =
    subst (λ (w : Option Wanted). let t : Told = record { answers = a ∷ rest; bytes = bytes; wanted = w } in IsEvent old t new after) none e
    in
    absurd (some_wanted after.wanted some (asks_once old a rest bytes new after at_hand))

-- what asks finds no answer
pub none_left : (old new : Content) (before after : Told) → before.wanted ≡ None → IsEvent old before new after
    → is_some after.wanted ≡ true → before.answers ≡ []
none_left old new before after none e some = answers_gone old new before.answers before.bytes before.wanted after none e some

pub makes : (old : Content) (before : Told) (step kind : HcStep) (new : Content) (after : Told) (asked : Bool)
    → IsEvent old before new after → step ≡ kind_of (microframe_row old.registers old.control) old
    → AreRefusalsFaults old.memory new.memory new.registers → asked ≡ is_some after.wanted → asked ≡ false → Some step ≡ Some kind
    → MakesNext old before kind new after
makes old before step kind new after asked e is faults wants unasked same =
    let s : step ≡ kind = cc in
    record { event = e; answered = nothing_wanted after.wanted (sym wants ∙ unasked); kind_is = sym s ∙ is; faults = faults }

pub asks : (old : Content) (before : Told) (s : Whole) (new : Content) (after : Told) (asked : Bool) → before.wanted ≡ None
    → IsEvent old before new after
    → (before.answers ≡ [] → is_some (address_in_hand old.control) ≡ true → s.registers ≡ shown old.registers 0)
    → (before.answers ≡ [] → is_some (address_in_hand old.control) ≡ true → control_of s ≡ Some old.control)
    → asked ≡ is_some after.wanted → asked ≡ true
    → AsksNext old before s new after
asks old before s new after asked none e registers to wants is =
    let some : is_some after.wanted ≡ true = sym wants ∙ is in
    let gone = none_left old new before after none e some in
    let held = asks_in_hand old new before after none some e in
    record { event = e; wanted = some; registers = registers gone held; to = to gone held }

-- ---- one event more

pub record GoneOn (start : Content) (desk : Told) (n : ℕ) (control : Control) (file : RegisterFile) (words : List ℕ) (foreign : ℕ)
    (after : Told) : Type 0 where
  pub goes : Goes start desk n (content control file (all_lent words)) after
  pub foreign_none : foreign ≡ 0
  pub answered : after.wanted ≡ None

-- while the controller runs nothing was refused
pub none_refused : (f g : ℕ) (run : Bool) → f ≡ 0 → (g ≢ f → run ≡ false) → run ≡ true → g ≡ 0
none_refused f g run none faults runs =
    ⊎_elim (λ (same : g ≡ f). same ∙ none) (λ (other : g ≢ f). absurd (true≢false (sym runs ∙ faults other))) (cases_eq g f)

or_last : (b : Bool) → (b || true) ≡ false → false ≡ true
or_last true e = sym e
or_last false e = sym e

pub not_last : (step : HcStep) (run : Bool) → (is_end step || not run) ≡ false → run ≡ true
not_last step true e = refl
not_last step false e = or_last (is_end step) e

pub goes_on : (start : Content) (desk : Told) (n : ℕ) (control : Control) (file : RegisterFile) (words : List ℕ) (f : ℕ) (before : Told)
    (kind : HcStep) (new : Control) (new_file : RegisterFile) (left : List ℕ) (g : ℕ) (after : Told) (running last : Bool)
    → Goes start desk n (content control file (all_lent words)) before → f ≡ 0
    → MakesNext (content control file (lent_mem words f)) before kind (content new new_file (lent_mem left g)) after
    → running ≡ new_file.run → last ≡ (is_end kind || not running) → last ≡ false
    → GoneOn start desk (n + 1) new new_file left g after
goes_on start desk n control file words f before kind new new_file left g after running last goes none m runs is others =
    let old : ℕ → Content = λ (k : ℕ). content control file (lent_mem words k) in
    let to : ℕ → Content = λ (k : ℕ). content new new_file (lent_mem left k) in
    let ends : (is_end kind || not new_file.run) ≡ false = sym (ap (λ (b : Bool). is_end kind || not b) runs) ∙ sym is ∙ others in
    let zero : g ≡ 0 = none_refused f g new_file.run none m.faults (not_last kind new_file.run ends) in
    let at : MakesNext (old 0) before kind (to 0) after =
    subst (λ (k : ℕ). MakesNext (old 0) before kind (to k) after) zero
    (subst (λ (k : ℕ). MakesNext (old k) before kind (to g) after) none m)
    in
    record {
      goes =
          next n (old 0) before (to 0) after goes at.event at.answered
          (sym (ap (λ (s : HcStep). is_end s || not new_file.run) at.kind_is) ∙ ends);
      foreign_none = zero;
      answered = m.answered;
    }

pub reaches_end : (start : Content) (desk : Told) (n : ℕ) (control : Control) (file : RegisterFile) (words : List ℕ) (f : ℕ) (before : Told)
    (kind : HcStep) (new : Control) (new_file : RegisterFile) (left : List ℕ) (g : ℕ) (after : Told) (running last : Bool) (s : Whole)
    → Goes start desk n (content control file (all_lent words)) before → f ≡ 0
    → MakesNext (content control file (lent_mem words f)) before kind (content new new_file (lent_mem left g)) after
    → running ≡ new_file.run → last ≡ (is_end kind || not running) → last ≡ true
    → s.registers ≡ shown new_file 0 → control_of s ≡ Some new
    → ReachesEnd start desk (n + 1) s left after
reaches_end start desk n control file words f before kind new new_file left g after running last s goes none m runs is ends registers to =
    let old : ℕ → Content = λ (k : ℕ). content control file (lent_mem words k) in
    let end : Content = content new new_file (lent_mem left g) in
    let at : MakesNext (old 0) before kind end after = subst (λ (k : ℕ). MakesNext (old k) before kind end after) none m in
    record {
      control = new;
      file = new_file;
      refused = g;
      held = address_in_hand control;
      over = record {
        earlier = n;
        old = old 0;
        before = before;
        goes = goes;
        event = at.event;
        answered = at.answered;
        last =
            sym (ap (λ (s : HcStep). is_end s || not new_file.run) at.kind_is)
            ∙ sym (ap (λ (b : Bool). is_end kind || not b) runs) ∙ sym is ∙ ends;
        count = refl;
        hand = refl;
      };
      registers = registers;
      to = to;
    }

pub reaches_ask : (start : Content) (desk : Told) (n : ℕ) (control : Control) (file : RegisterFile) (words : List ℕ) (f : ℕ) (before : Told)
    (new : Control) (new_file : RegisterFile) (left : List ℕ) (g : ℕ) (after : Told) (s : Whole)
    → Goes start desk n (content control file (all_lent words)) before → f ≡ 0 → before.wanted ≡ None
    → AsksNext (content control file (lent_mem words f)) before s (content new new_file (lent_mem left g)) after
    → ReachesAsk start desk n s left after
reaches_ask start desk n control file words f before new new_file left g after s goes none unasked a =
    let old : ℕ → Content = λ (k : ℕ). content control file (lent_mem words k) in
    let end : Content = content new new_file (lent_mem left g) in
    let at : AsksNext (old 0) before s end after = subst (λ (k : ℕ). AsksNext (old k) before s end after) none a in
    let same : words ≡ left = sym (held_up_keeps (old 0) end before after unasked at.wanted at.event) in
    record {
      before = before;
      made = record {
        control = control;
        file = file;
        goes = subst (λ (ws : List ℕ). Goes start desk n (content control file (all_lent ws)) before) same goes;
        registers = at.registers;
        to = at.to;
      };
      end = end;
      event = subst (λ (ws : List ℕ). IsEvent (content control file (all_lent ws)) before end after) same at.event;
      wanted = at.wanted;
      all_taken = none_after (old 0) end before after (none_left (old 0) end before after unasked at.event at.wanted) at.event;
    }

-- ---- a call

pub opens : (s : Whole) (words : List ℕ) (control : Control) (regs : RegisterFile) (lent : List ℕ)
    → regs ≡ file_of s.registers → lent ≡ words → content control regs (all_lent lent) ≡ opening control s.registers words
opens s words control regs lent file same =
    ap (λ (r : RegisterFile). content control r (all_lent lent)) file
    ∙ ap (λ (ws : List ℕ). content control (file_of s.registers) (all_lent ws)) same

-- what a call leaves, from where it begins
pub leaves_from : (stop it : RunStop) (start at : Content) (desk : Told) (most : ℕ) (new : Whole) (left words : List ℕ) (after : Told)
    → Leaves stop start desk most new left after → start ≡ at → words ≡ left → stop ≡ it → Leaves it at desk most new words after
leaves_from stop it start at desk most new left words after l from same is =
    subst (λ (x : RunStop). Leaves x at desk most new words after) is
    (subst (λ (ws : List ℕ). Leaves stop at desk most new ws after) (sym same)
    (subst (λ (c : Content). Leaves stop c desk most new left after) from l))

pub leaves_at : (s : Whole) (words lent : List ℕ) (read : Option Control) (control : Control) (regs : RegisterFile) (stop it : RunStop)
    (desk : Told) (most : ℕ) (new : Whole) (now left : List ℕ) (after : Told)
    → regs ≡ file_of s.registers → lent ≡ words → Leaves stop (content control regs (all_lent lent)) desk most new now after
    → left ≡ now → stop ≡ it → Leaves it (opening control s.registers words) desk most new left after
leaves_at s words lent read control regs stop it desk most new now left after file lend l same is =
    leaves_from stop it _ _ desk most new now left after l (opens s words control regs lent file lend) same is

pub is_run_over : (s : Whole) (words lent : List ℕ) (read : Option Control) (control : Control) (regs : RegisterFile) (stop : RunStop)
    (n : ℕ) (desk : Told) (most : ℕ) (new : Whole) (now left : List ℕ) (after : Told)
    → read ≡ control_of s → read ≡ Some control → regs ≡ file_of s.registers → lent ≡ words
    → Leaves stop (content control regs (all_lent lent)) desk most new now after → left ≡ now → stop ≡ stops.Over n
    → IsRunOver s words desk n new left after
is_run_over s words lent read control regs stop n desk most new now left after reads some file lend l same is =
    let at = leaves_at s words lent read control regs stop (stops.Over n) desk most new now left after file lend l same is in
    record { control = control; from = sym reads ∙ some; made = at.1 }

pub is_run_held_up : (s : Whole) (words lent : List ℕ) (read : Option Control) (control : Control) (regs : RegisterFile) (stop : RunStop)
    (n : ℕ) (desk : Told) (most : ℕ) (new : Whole) (now left : List ℕ) (after : Told)
    → read ≡ control_of s → read ≡ Some control → regs ≡ file_of s.registers → lent ≡ words
    → Leaves stop (content control regs (all_lent lent)) desk most new now after → left ≡ now → stop ≡ stops.WantsBus n
    → IsRunHeldUp s words desk n new left after
is_run_held_up s words lent read control regs stop n desk most new now left after reads some file lend l same is =
    let at = leaves_at s words lent read control regs stop (stops.WantsBus n) desk most new now left after file lend l same is in
    record { control = control; from = sym reads ∙ some; made = at.1 }

pub is_run : (s : Whole) (words lent : List ℕ) (read : Option Control) (control : Control) (regs : RegisterFile) (stop : RunStop)
    (desk : Told) (most : ℕ) (new : Whole) (now left : List ℕ) (after : Told)
    → read ≡ control_of s → read ≡ Some control → regs ≡ file_of s.registers → lent ≡ words
    → Leaves stop (content control regs (all_lent lent)) desk most new now after → left ≡ now → stop ≡ stops.Long
    → IsRun s words desk most new left after
is_run s words lent read control regs stop desk most new now left after reads some file lend l same is = record {
  control = control;
  from = sym reads ∙ some;
  made = leaves_at s words lent read control regs stop stops.Long desk most new now left after file lend l same is;
}

-- it doesn't end as one that wasn't begun
pub leaves_none : (stop : RunStop) (start : Content) (desk : Told) (most : ℕ) (new : Whole) (left : List ℕ) (after : Told)
    → Leaves stop start desk most new left after → (stop ≢ stops.Idle) × (stop ≢ stops.Unfit)
leaves_none (stops.Over n) start desk most new left after l = (λ e. cc, λ e. cc)
leaves_none (stops.WantsBus n) start desk most new left after l = (λ e. cc, λ e. cc)
leaves_none stops.Long start desk most new left after l = (λ e. cc, λ e. cc)
leaves_none stops.Idle start desk most new left after l = absurd l
leaves_none stops.Unfit start desk most new left after l = absurd l

pub over_allowed : (stop : RunStop) (n : ℕ) (start : Content) (desk : Told) (most : ℕ) (new : Whole) (left : List ℕ) (after : Told)
    → Leaves stop start desk most new left after → stop ≡ stops.Over n → n ≤ most
over_allowed stop n start desk most new left after l is = (subst (λ (x : RunStop). Leaves x start desk most new left after) is l).0

pub wants_allowed : (stop : RunStop) (n : ℕ) (start : Content) (desk : Told) (most : ℕ) (new : Whole) (left : List ℕ) (after : Told)
    → Leaves stop start desk most new left after → stop ≡ stops.WantsBus n → n ≤ most
wants_allowed stop n start desk most new left after l is = (subst (λ (x : RunStop). Leaves x start desk most new left after) is l).0
