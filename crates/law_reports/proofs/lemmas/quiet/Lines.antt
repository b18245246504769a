-- Each line that tells a missed microframe is of an endpoint below a hub; and where all packets above get through, so is each that tells a
-- halt by errors.
use Rattle.std.proofs.Common.{◌≡◌, ℕ, zero, suc, ◌*◌, Bool, true, false, List, [], ◌∷◌, ◌++◌, length, slice_get, Some, None}
use Rattle.std.proofs.Common.{Result, Ok, Err, ap, refl, sym, subst, ◌∙◌, ⊎_elim, inl, inr}
use Rattle.std.specs.Prelude.{◌⊎◌, ◌==◌, ◌&&◌, ◌||◌, not}
use Rattle.std.proofs.lemmas.Bool.{false≢true}
use Rattle.std.proofs.lemmas.Option.{same_Some}
use Rattle.usb_base.specs.declared.commands.Cmd.{Cmd}
use Rattle.usb_base.specs.declared.endpoints.EpDesc.{EpDesc}
use Rattle.usb_base.specs.declared.endpoints.EndCause.TheVariants as causes
use Rattle.usb_base.specs.declared.endpoints.EpName.{EpName}
use Rattle.usb_base.specs.declared.packets.Speed.{Speed}
use Rattle.usb_base.specs.declared.packets.Speed.TheVariants as speeds
use Rattle.usb_base.specs.declared.reports.OfferError.{OfferError}
use Rattle.usb_base.specs.declared.reports.Report.{Report}
use Rattle.usb_base.specs.declared.reports.What.{What}
use Rattle.usb_base.specs.declared.reports.What.TheVariants as lines
use Rattle.script_types.specs.declared.scripts.Script.{Script}
use Rattle.bus_wire.specs.Bus.{fixed_of}
use Rattle.qh_qtd.specs.declared.queue_head.Qh.{Qh}
use Rattle.qh_qtd.specs.declared.token.Token.{Token}
use Rattle.mem_queues.specs.Structures.{queue_head_at_address}
use Rattle.drv_table.specs.declared.content.Endpoint.{Endpoint}
use Rattle.drv_table.specs.declared.content.QtdNote.{QtdNote}
use Rattle.drv_table.specs.declared.content.Transfer.{Transfer}
use Rattle.drv_table.specs.Accepting.{Offered}
use Rattle.drv_table.specs.DriverContent.{DriverContent}
use Rattle.drv_table.specs.Offers.{offered}
use Rattle.drv_table.specs.Rows.{driver_row}
use Rattle.drv_table.specs.Words.{is_high, speed_field}
use Rattle.claims_answers.specs.Telling.{token_of, HasReason, done, missed, babbled, failed, stalled, IsToldByToken, Reason, by_token}
use Rattle.claims_answers.specs.Telling.{behind, by_slots, by_cancel, AreTold, nothing, one_more}
use Rattle.claims_driver.specs.Owners.{is_descriptor}
use Rattle.law_driver.proofs.Common.{pushed}
use Rattle.law_driver.specs.queued_drivers.Queued.{with_queue}
use Rattle.law_driver.proofs.lemmas.queued_drivers.CommandReasons.{reason_of}
use Rattle.law_structures.proofs.lemmas.lent_structures.Reading.{head_read}
use Rattle.law_ring.specs.Told.{Endpoint as Told, endpoint_of, HasEndpoint}
use Rattle.law_telling.proofs.Lines.{drivers_tell_for_reasons}
use Rattle.bus_world.specs.Budgets.{moment}
use Rattle.bus_world.specs.World.{World, driver_parts, driver_next, name_in, commanded_by}
use Rattle.law_world.proofs.lemmas.memory.Carrying.{carrying}
use Rattle.law_world.proofs.lemmas.memory.HarvestKept.{tells_of}
use Rattle.law_reports.specs.pipes.Declared.{sides_of}
use Rattle.law_reports.specs.pipes.Piped.{asked_as, HasPiped}
use Rattle.law_reports.proofs.lemmas.pipes.Accepted.{EndsThen, one_more as one_endpoint_more, one_anew, ends_then, now_anew}
use Rattle.law_reports.proofs.lemmas.pipes.Across.{IsNowIn, is_now_in, row_ends}
use Rattle.law_reports.proofs.lemmas.pipes.Moments.{texts_are_piped}
use Rattle.law_reports.specs.quiet.Errors.{key_of, TokenHasLeft}
use Rattle.law_reports.specs.quiet.Heard.{is_high_asked, IsHeardWorld}
use Rattle.law_reports.proofs.lemmas.quiet.Heards.{texts_are_heard}
use Rattle.claims_world.specs.Misses.{IsLineOf}
use Rattle.law_reports.specs.quiet.Laws.{IsUnmissedWorld, TextsMissBelow}
use Rattle.law_reports.specs.quiet.HeardLaws.{TextsFailBelow}
use Rattle.law_reports.proofs.lemmas.quiet.Tokens.{token_there, is_met, part_there, head_there, token_read, queue_is, met_as}
use Rattle.law_reports.proofs.lemmas.quiet.Worlds.{texts_miss_none}

-- ---- the tokens that are read

-- no token that is read of such an endpoint is a reason for such a line
abbrev pub ReadsNone : (EpDesc → Bool) → What → World → Type 0
ReadsNone of it w = (t : ℕ) (y : Transfer) (x : Endpoint) → slice_get w.driver.transfers t ≡ Some y
    → slice_get w.driver.endpoints y.endpoint ≡ Some x
    → is_descriptor y.sort ≡ false → y.reported ≡ false → x.ended ≡ None → of x.desc ≡ true
    → (get last : Bool) (what : What) → HasReason get last (token_of w.memory y.place) what → what ≡ it → ⊥

-- a queue head that is met is asked by its endpoint's own speed
module _ (s : Script) (w : World) (k : HasPiped (fixed_of s) (sides_of s) w) (e n : ℕ) (z : Endpoint) (q : Qh)
    (here : slice_get w.driver.endpoints e ≡ Some z)
    (at : n ≡ 32 * z.queue) (near : k.standing.near n ≡ true) (ends : k.heads.ends n ≡ asked_as z.desc)
    (read : queue_head_at_address w.memory n ≡ Some q) where
  named : (b : Bool) → k.heads.ins n ≡ b → HasEndpoint k.standing.parts n (k.heads.ends n)
  named true on = (k.piped.pipes.in_pipes.pipes n on).named
  named false off = (k.piped.pipes.in_pipes.others n near off).0

  pub asked : endpoint_of q ≡ asked_as z.desc
  asked =
      let h = named (k.heads.ins n) refl in
      let same : h.queue ≡ q = same_Some h.queue q
      (sym (head_read w.memory k.standing.parts n n h.queue (tells_of k.standing w k.piped.mixed) h.head) ∙ read) in
      ap endpoint_of (sym same) ∙ sym h.is ∙ ends

abbrev pub at_high : EpDesc → Bool
at_high x = is_high x.speed

high_eps : (x : EpDesc) → is_high x.speed ≡ true → (asked_as x).speed ≡ 2
high_eps x high = by x.speed high
  where
    by : (v : Speed) → is_high v ≡ true → speed_field v ≡ 2
    by speeds.High on = refl
    by speeds.Full on = absurd (false≢true on)
    by speeds.Low on = absurd (false≢true on)

missed_told : (get last : Bool) (t : Token) (what : What) → HasReason get last t what → what ≡ lines.Miss → t.missed ≡ true
missed_told get last t _ (done idle on whole) is = absurd (cc)
missed_told get last t _ (missed idle on bit) is = bit
missed_told get last t _ (babbled idle on bit long) is = absurd (cc)
missed_told get last t _ (failed idle on bit long out) is = absurd (cc)
missed_told get last t _ (stalled idle on bit long some) is = absurd (cc)

reads_unmissed : (s : Script) (w : World) → IsUnmissedWorld w → HasPiped (fixed_of s) (sides_of s) w → ReadsNone at_high lines.Miss w
reads_unmissed s w u k t y x there here sort untold going high get last what reason is =
    let v = u.standing in
    let q = (part_there v w u.mixed t y x there here sort untold going).queue in
    let met = is_met v w u.mixed t y x there here sort untold going in
    let near : k.standing.near (32 * x.queue) ≡ true = k.piped.mixed.queues.queues.met.each y.endpoint (with_queue x)
    (queue_is v w u.mixed t y x there here sort untold going) met in
    let ends : k.heads.ends (32 * x.queue) ≡ asked_as x.desc = k.piped.named y.endpoint x here
    (met_as v w u.mixed t y x there here sort untold going met) in
    let eps : q.eps ≡ 2 =
    ap (λ (z : Told). z.speed) (asked s w k y.endpoint (32 * x.queue) x q here refl near ends
    (head_there v w u.mixed t y x there here sort untold going))
    ∙ high_eps x.desc high in
    let f = token_there v w u.mixed t y x there here sort untold going in
    false≢true
    (sym (ap (λ (z : Token). z.missed) (token_read v w u.mixed t y x there here sort untold going)
    ∙ ((u.left.parts (32 * x.queue)).elements q (32 * y.place) f.qtd
    (part_there v w u.mixed t y x there here sort untold going).here f.here).met eps)
    ∙ missed_told get last (token_of w.memory y.place) what reason is)

-- ---- .. where all packets above get through

pub error_told : (get last : Bool) (t : Token) (what : What) → HasReason get last t what → what ≡ lines.Halt causes.Error
    → (t.halted ≡ true) × (t.cerr ≡ 0)
error_told get last t _ (done idle on whole) is = absurd (cc)
error_told get last t _ (missed idle on bit) is = absurd (cc)
error_told get last t _ (babbled idle on bit long) is = absurd (cc)
error_told get last t _ (failed idle on bit long out) is = (on, out)
error_told get last t _ (stalled idle on bit long some) is = absurd (cc)

pub reads_unfailed : (s : Script) (w : World) → IsHeardWorld s w → ReadsNone at_high (lines.Halt causes.Error) w
reads_unfailed s w k t y x there here sort untold going high get last what reason is =
    let v = k.standing in
    let mixed = k.piped.mixed in
    let piped : HasPiped (fixed_of s) (sides_of s) w =
    record { standing = k.standing; lines = k.lines; heads = k.heads; piped = k.piped } in
    let q = (part_there v w mixed t y x there here sort untold going).queue in
    let met = is_met v w mixed t y x there here sort untold going in
    let near : v.near (32 * x.queue) ≡ true = mixed.queues.queues.met.each y.endpoint (with_queue x)
    (queue_is v w mixed t y x there here sort untold going) met in
    let ends : k.heads.ends (32 * x.queue) ≡ asked_as x.desc = k.piped.named y.endpoint x here
    (met_as v w mixed t y x there here sort untold going met) in
    let own : endpoint_of q ≡ asked_as x.desc = asked s w piped y.endpoint (32 * x.queue) x q here refl near ends
    (head_there v w mixed t y x there here sort untold going) in
    let eps : q.eps ≡ 2 = ap (λ (z : Told). z.speed) own ∙ high_eps x.desc high in
    let on : is_high_asked (key_of q) ≡ true =
    ap (λ (n : ℕ). n == 2 && (q.dtc || not (q.ep == 0))) eps
    ∙ ap (λ (z : Told). z.dtc || not (z.ep == 0)) own ∙ (k.served y.endpoint x here).named in
    let f = token_there v w mixed t y x there here sort untold going in
    let left : TokenHasLeft is_high_asked (key_of q) f.qtd.token = (k.left.parts (32 * x.queue)).elements q (32 * y.place) f.qtd
    (part_there v w mixed t y x there here sort untold going).here f.here in
    let read : token_of w.memory y.place ≡ f.qtd.token = token_read v w mixed t y x there here sort untold going in
    let told = error_told get last (token_of w.memory y.place) what reason is in
    left.stopped on (ap (λ (z : Token). z.halted) (sym read) ∙ told.0) (ap (λ (z : Token). z.cerr) (sym read) ∙ told.1)

-- ---- the lines of one event

last_or : {A : Type 0} (xs : List A) (z : A) (i : ℕ) (v : A) → slice_get (xs ++ z ∷ []) i ≡ Some v → (slice_get xs i ≡ Some v) ⊎ (v ≡ z)
last_or [] z zero v is = inr (sym (same_Some z v is))
last_or [] z (suc i) v is = absurd (cc)
last_or (x ∷ xs) z zero v is = inl is
last_or (x ∷ xs) z (suc i) v is = last_or xs z i v is

is_of : (d f : DriverContent) → ((e : ℕ) (y : Endpoint) → slice_get d.endpoints e ≡ Some y → IsNowIn f.endpoints e y)
    → (line : Report) (P : EpDesc → Type 0)
    → IsLineOf d line P → IsLineOf f line P
is_of d f now line P k =
    let z = now k.number k.endpoint k.here in
    record {
      number = k.number;
      endpoint = z.endpoint;
      here = z.here;
      name = k.name ∙ ap (λ (x : EpDesc). x.name) (sym z.comes.desc);
      so = subst P (sym z.comes.desc) k.so;
    }

abbrev IsOther : (EpDesc → Bool) → EpDesc → Type 0
IsOther of x = of x ≡ false

-- of what no other reason tells
pub record IsOfTokens (it : What) : Type 0 where
  pub stall : ◌≡◌ {A = What} (lines.Halt causes.Stall) it → ⊥
  pub slots : (n : ℕ) → ◌≡◌ {A = What} (lines.Iso n) it → ⊥
  pub cancel : ◌≡◌ {A = What} lines.Cancel it → ⊥
  pub refusal : (n : ℕ) (why : OfferError) → ◌≡◌ {A = What} (lines.Refused n why) it → ⊥

abbrev pub LinesAreBelow : (EpDesc → Bool) → What → DriverContent → Type 0
LinesAreBelow of it d = (i : ℕ) (line : Report) → slice_get d.reports i ≡ Some line → line.what ≡ it → IsLineOf d line (IsOther of)

module _ (bad : EpDesc → Bool) (it : What) (of : IsOfTokens it) where
  module _ (w : World) (reads : ReadsNone bad it w) where
    token_below : (notes : List QtdNote) (line : Report) (bytes : List ℕ) → IsToldByToken (driver_parts w) notes line bytes
        → line.what ≡ it → IsLineOf w.driver line (IsOther bad)
    token_below notes line bytes k is = record {
      number = k.of.transfer.endpoint;
      endpoint = k.of.endpoint;
      here = k.of.here;
      name = k.of.name;
      so = by (bad k.of.endpoint.desc) refl;
    }
      where
        by : (b : Bool) → bad k.of.endpoint.desc ≡ b → bad k.of.endpoint.desc ≡ false
        by false slow = slow
        by true high =
            absurd (reads k.of.number k.of.transfer k.of.endpoint k.of.there k.of.here k.qtds k.of.untold k.of.going high _ _ line.what
            k.reason
            is)

    reason_below : (notes : List QtdNote) (line : Report) (bytes : List ℕ) → Reason (driver_parts w) notes line bytes → line.what ≡ it
        → IsLineOf w.driver line (IsOther bad)
    reason_below notes line bytes (by_token k) is = token_below notes line bytes k is
    reason_below notes line bytes (behind k) is = absurd (of.stall (sym k.what ∙ is))
    reason_below notes line bytes (by_slots k) is = absurd (of.slots _ (sym k.what ∙ is))
    reason_below notes line bytes (by_cancel k) is = absurd (of.cancel (sym k.what ∙ is))

    told_below : (notes : List QtdNote) (reports : List Report) (store : List ℕ) → AreTold (driver_parts w) notes reports store
        → LinesAreBelow bad it w.driver
        → (i : ℕ) (line : Report) → slice_get reports i ≡ Some line → line.what ≡ it → IsLineOf w.driver line (IsOther bad)
    told_below notes _ _ nothing old i line here is = old i line here is
    told_below notes _ _ (one_more reports store bytes z told reason from long) old i line here is =
        ⊎_elim (λ (was : slice_get reports i ≡ Some line). told_below notes reports store told old i line was is)
        (λ (new : line ≡ z). subst (λ (v : Report). IsLineOf w.driver v (IsOther bad)) (sym new)
        (reason_below notes z bytes reason (ap (λ (v : Report). v.what) (sym new) ∙ is))) (last_or reports z i line here)

    driver_below : LinesAreBelow bad it w.driver → LinesAreBelow bad it (driver_next w).driver
    driver_below old i line here is =
        is_of w.driver (driver_next w).driver
        (is_now_in w.driver.endpoints (driver_next w).driver.endpoints (row_ends (driver_row (driver_parts w)) (driver_parts w))) line
        (IsOther bad)
        (told_below (driver_next w).driver.notes (driver_next w).driver.reports (driver_next w).driver.store (drivers_tell_for_reasons
        (driver_parts w)) old i line here is)

  -- ---- a command

  accepted_below : (d f : DriverContent) (cmd : Cmd) → EndsThen d f cmd → LinesAreBelow bad it d → LinesAreBelow bad it f
  accepted_below d f cmd (one_endpoint_more x is_open ends kept newest tells) old i line here is =
      is_of d f (λ e y at. record {
        endpoint = y;
        here = ap (λ (xs : List Endpoint). slice_get xs e) ends ∙ pushed d.endpoints x e y at;
        comes = record { desc = refl; queue = refl; alive = λ some. some };
      }) line (IsOther bad) (old i line (ap (λ (rs : List Report). slice_get rs i) (sym tells.reports) ∙ here) is)
  accepted_below d f cmd (one_anew e y z at ends comes gone never tells) old i line here is =
      is_of d f (λ j v there. subst (λ (xs : List Endpoint). IsNowIn xs j v) (sym ends) (now_anew d.endpoints e y z at comes j v there))
      line (IsOther bad) (old i line (ap (λ (rs : List Report). slice_get rs i) (sym tells.reports) ∙ here) is)

  refused_below : (w : World) (n : ℕ) (name : EpName) (why : OfferError) → LinesAreBelow bad it w.driver
      → LinesAreBelow bad it (commanded_by w n name (Err why)).driver
  refused_below w n name why old i line here told =
      let told_so : Report = record { name = name; what = lines.Refused n why; from = length w.driver.store; len = 0 } in
      ⊎_elim (λ (was : slice_get w.driver.reports i ≡ Some line). again (old i line was told))
      (λ (new : line ≡ told_so). absurd (of.refusal n why (sym (ap (λ (v : Report). v.what) new) ∙ told)))
      (last_or w.driver.reports told_so i line here)
    where
      again : IsLineOf w.driver line (IsOther bad) → IsLineOf (commanded_by w n name (Err why)).driver line (IsOther bad)
      again k = record { number = k.number; endpoint = k.endpoint; here = k.here; name = k.name; so = k.so }

  command_by : (w : World) (n : ℕ) (cmd : Cmd) (name : EpName) (r : Result Offered OfferError) → offered w.driver w.memory cmd ≡ r
      → LinesAreBelow bad it w.driver → LinesAreBelow bad it (commanded_by w n name r).driver
  command_by w n cmd name (Ok o) is old = accepted_below w.driver o.driver cmd (ends_then w.driver w.memory o cmd
      (reason_of w.driver w.memory cmd o is)) old
  command_by w n cmd name (Err why) is old = refused_below w n name why old

  -- ---- each moment

  none_yet : (line : Report) (i : ℕ) → slice_get [] i ≡ Some line → ⊥
  none_yet line zero e = cc
  none_yet line (suc i) e = cc

  pub lines_below : (s : Script) → ((j : ℕ) → ReadsNone bad it (moment s j).world) → (k : ℕ) → LinesAreBelow bad it (moment s k).world.driver
  lines_below s reads k =
      carrying {X = ℕ} (λ fixed w n. n) (λ w orders n. ReadsNone bad it w) (λ w n. LinesAreBelow bad it w.driver) s 0
      (record {
        controller = λ w orders n reads old. old;
        driver = λ w orders n reads old. driver_below w reads old;
        command = λ w line cmd rest n reads old. command_by w line cmd (name_in cmd) (offered w.driver w.memory cmd) refl old;
      })
      reads (λ i line here. absurd (none_yet line i here)) k

-- ---- of the two

of_misses : IsOfTokens lines.Miss
of_misses = record { stall = λ e. cc; slots = λ n e. cc; cancel = λ e. cc; refusal = λ n why e. cc }

pub of_errors : IsOfTokens (lines.Halt causes.Error)
of_errors = record { stall = λ e. cc; slots = λ n e. cc; cancel = λ e. cc; refusal = λ n why e. cc }

pub texts_miss_below : TextsMissBelow
texts_miss_below text s spelled k =
    lines_below at_high lines.Miss of_misses s
    (λ j. reads_unmissed s (moment s j).world (texts_miss_none text s spelled j) (texts_are_piped text s spelled j)) k

pub texts_fail_below : TextsFailBelow
texts_fail_below text s spelled above k =
    lines_below at_high (lines.Halt causes.Error) of_errors s
    (λ j. reads_unfailed s (moment s j).world (texts_are_heard text s spelled above j)) k
