-- An event leaves what was asked, and a command with a later number is one more of the lines that were taken.
use Rattle.std.proofs.Common.{◌≡◌, ℕ, ◌<◌, Bool, true, false, ◌||◌, ◌==◌, List, [], ◌∷◌, ◌++◌, length, map, Option, Some, None, Result, Ok, Err, ap, sym, subst, refl, ◌∙◌, arith}
use Rattle.std.specs.Prelude.{if◌then◌else◌}
use Rattle.std.specs.List.{AllByRecursion, cons_option}
use Rattle.std.proofs.lemmas.Bool.{eq-eqb, eqb-true}
use Rattle.std.proofs.lemmas.List.{append-nil, length-map}
use Rattle.std.proofs.lemmas.List.Elements.{filter_map-append}
use Rattle.law_reports.proofs.Common.{asked_before}
use Rattle.law_world.proofs.Common.{each_alike}
use Rattle.law_common.proofs.Options.{either_none}
use Rattle.law_common.proofs.Lists.{all_more, nth_all}
use Rattle.usb_base.specs.declared.commands.Cmd.{Cmd}
use Rattle.usb_base.specs.declared.commands.Cmd.TheVariants as commands
use Rattle.usb_base.specs.declared.endpoints.EpDesc.{EpDesc}
use Rattle.usb_base.specs.declared.endpoints.EpName.{EpName}
use Rattle.usb_base.specs.declared.reports.OfferError.{OfferError}
use Rattle.script_types.specs.declared.scripts.Event.TheVariants as events
use Rattle.script_types.specs.declared.scripts.Line.{Line}
use Rattle.script_types.specs.declared.scripts.Line.TheVariants as lines
use Rattle.bus_wire.specs.Bus.{Fixed}
use Rattle.drv_table.specs.DriverContent.{DriverContent}
use Rattle.drv_table.specs.Accepting.{Offered}
use Rattle.drv_table.specs.Offers.{offered}
use Rattle.drv_table.specs.Words.{is_control}
use Rattle.claims_report.specs.Reports.{WholeReport}
use Rattle.claims_report.specs.Streams.{is_refused, command_in, accepted_in}
use Rattle.claims_report.specs.Requests.{Request}
use Rattle.bus_world.specs.World.{World, driver_parts, driver_next, next, name_in, refused_line, commanded_by}
use Rattle.bus_world.proofs.Offering.{SameLines, Lines, offer_lines}
use Rattle.claims_world.specs.Streams.{report_of}
use Rattle.law_world.specs.streams.put_laws.TakenPuts.{PutsAreTaken}
use Rattle.law_world.proofs.lemmas.streams.lemmas.put_laws.Mapped.{was_mapped, mapped}
use Rattle.law_world.proofs.lemmas.streams.lemmas.put_laws.Stays.{desc_at, owner_at, descs_in, owners_in, refuses, refuses_more, event_stays}
use Rattle.law_world.proofs.lemmas.streams.lemmas.put_laws.TakenAccepted.{IfAccepted}
use Rattle.law_world.proofs.lemmas.streams.lemmas.put_laws.Steps.{accepted_of, to_agrees}
use Rattle.law_world.proofs.lemmas.streams.lemmas.put_laws.Agreeing.{Agrees as PutsAgree}
use Rattle.claims_world.specs.Requests.{asks_then}
use Rattle.law_reports.specs.requests.told_requests.Asked.{requests_of, RequestsAreTaken}
use Rattle.law_reports.specs.requests.told_requests.AskedLaws.{EventKeepsRequests, CommandTakesRequests}
use Rattle.law_reports.proofs.lemmas.requests.lemmas.told_requests.Adding.{Adds, opens, asks as asks_one, others, command_asks}
use Rattle.law_reports.proofs.lemmas.requests.lemmas.told_requests.Agreeing.{by_owners, asked_in, Agrees, agrees_same, agrees_open, agrees_request, agrees_others}

-- ---- of a driver, and of its lists

to_lists : (d : DriverContent) (r : WholeReport) (taken : List (ℕ × Line)) (asks : ℕ → Request) → RequestsAreTaken d r taken asks → Agrees (descs_in d) (owners_in d) (accepted_of r taken) asks
to_lists d r taken asks h = record {
  each = λ e x here on.
      let w = was_mapped desc_at d.endpoints e x here in
      ap (map asks) (sym (by_owners e 0 d.transfers))
      ∙ subst (λ (z : EpDesc). requests_of d asks e ≡ asked_in (accepted_of r taken) z.name) w.2 (h.each e w.0 w.1 (ap (λ (z : EpDesc). is_control z.kind) w.2 ∙ on));
  others = λ name none. h.others name (λ e x here. none e x.desc (mapped desc_at d.endpoints e x here));
}

from_lists : (d : DriverContent) (r : WholeReport) (taken : List (ℕ × Line)) (asks : ℕ → Request) → Agrees (descs_in d) (owners_in d) (accepted_of r taken) asks → RequestsAreTaken d r taken asks
from_lists d r taken asks h = record {
  each = λ e x here on. ap (map asks) (by_owners e 0 d.transfers) ∙ h.each e x.desc (mapped desc_at d.endpoints e x here) on;
  others = λ name none. h.others name (λ e x here same. let w = was_mapped desc_at d.endpoints e x here in none e w.0 w.1 (ap (λ (z : EpDesc). z.name) w.2 ∙ same));
}

agrees_alike : (descs descs_now : List EpDesc) (owners owners_now : List ℕ) (cmds cmds_now : List Cmd) (asks : ℕ → Request) → descs_now ≡ descs → owners_now ≡ owners → cmds_now ≡ cmds
    → Agrees descs owners cmds asks → Agrees descs_now owners_now cmds_now asks
agrees_alike descs descs_now owners owners_now cmds cmds_now asks a b c h =
    subst (λ (z : List EpDesc). Agrees z owners_now cmds_now asks) (sym a) (subst (λ (z : List ℕ). Agrees descs z cmds_now asks) (sym b) (subst (λ (z : List Cmd). Agrees descs owners z asks) (sym c) h))

-- ---- what the report refuses of these lines

-- of each line the same as before
alike_accepted : (r now : WholeReport) (taken : List (ℕ × Line)) → AllByRecursion (λ (l : ℕ × Line). is_refused now l.0 ≡ is_refused r l.0) taken → accepted_of now taken ≡ accepted_of r taken
alike_accepted r now [] same = refl
alike_accepted r now (l ∷ ls) same =
    ap (λ (b : Bool). cons_option (if b then None else command_in l.1) (accepted_of now ls)) same.0
    ∙ ap (λ (rest : List Cmd). cons_option (accepted_in r l) rest) (alike_accepted r now ls same.1)

-- the driver and the report may change otherwise
requests_stay : (d c : DriverContent) (r now : WholeReport) (taken : List (ℕ × Line)) (asks : ℕ → Request) → descs_in c ≡ descs_in d → owners_in c ≡ owners_in d → ((n : ℕ) → is_refused now n ≡ is_refused r n)
    → RequestsAreTaken d r taken asks → RequestsAreTaken c now taken asks
requests_stay d c r now taken asks descs owners refusals h =
    from_lists c now taken asks
    (agrees_alike (descs_in d) (descs_in c) (owners_in d) (owners_in c) (accepted_of r taken) (accepted_of now taken) asks descs owners (alike_accepted r now taken (each_alike r now taken refusals)) (to_lists d r taken asks h))

-- ---- an event

pub event_keeps_requests : EventKeepsRequests
event_keeps_requests fixed w events.D taken asks h =
    let stays = event_stays (driver_parts w) in
    requests_stay w.driver (driver_next w).driver (report_of fixed w) (report_of fixed (driver_next w)) taken asks stays.descs stays.owners stays.refusals h
event_keeps_requests fixed w events.C taken asks h = requests_stay w.driver w.driver (report_of fixed w) (report_of fixed (next fixed w events.C)) taken asks refl refl (λ n. refl) h

-- ---- a line that is no command

accepted_push : (r : WholeReport) (taken : List (ℕ × Line)) (l : ℕ × Line) (o : Option Cmd) → accepted_in r l ≡ o → accepted_of r (taken ++ l ∷ []) ≡ accepted_of r taken ++ cons_option o []
accepted_push r taken l o is = filter_map-append (accepted_in r) taken (l ∷ []) ∙ ap (λ (z : Option Cmd). accepted_of r taken ++ cons_option z []) is

pub silent_requests : (d : DriverContent) (r : WholeReport) (taken : List (ℕ × Line)) (l : ℕ × Line) (asks : ℕ → Request) → command_in l.1 ≡ None → RequestsAreTaken d r taken asks → RequestsAreTaken d r (taken ++ l ∷ []) asks
silent_requests d r taken l asks none h =
    from_lists d r (taken ++ l ∷ []) asks
    (subst (λ (z : List Cmd). Agrees (descs_in d) (owners_in d) z asks)
    (sym (accepted_push r taken l None (either_none (is_refused r l.0) (command_in l.1) none) ∙ append-nil (accepted_of r taken))) (to_lists d r taken asks h))

-- ---- a command

-- its number isn't refused yet
number_new : (d : DriverContent) (r : WholeReport) (n : ℕ) (taken : List (ℕ × Line)) (puts : ℕ → List ℕ) → AllByRecursion (λ (l : ℕ × Line). l.0 < n) taken → PutsAreTaken d r taken puts → is_refused r n ≡ false
number_new d r n taken puts before h = by (is_refused r n) refl
  where
    by : (b : Bool) → is_refused r n ≡ b → b ≡ false
    by false is = refl
    by true is =
        let k = h.refused n is in
        let low = nth_all (λ (l : ℕ × Line). l.0 < n) taken k.at (n, lines.Command k.cmd) before k.here in
        absurd (omega (arith, low))

pub then_owned : (d : DriverContent) (cmd : Cmd) (asks : ℕ → Request) (t : ℕ) → t < length (owners_in d) → asks_then d cmd asks t ≡ asks t
then_owned d cmd asks t low = let long = length-map d.transfers owner_at in asked_before d cmd asks t (omega (arith, low, long))

ask_last : (d : DriverContent) (name : EpName) (setup bytes : List ℕ) (asks : ℕ → Request) → asks_then d (commands.Control name setup bytes) asks (length (owners_in d)) ≡ record { setup = setup; bytes = bytes }
ask_last d name setup bytes asks =
    ap (λ (b : Bool). if b then record { setup = setup; bytes = bytes } else asks (length (owners_in d))) (eq-eqb (length (owners_in d)) (length d.transfers) (length-map d.transfers owner_at))

module _ (d c : DriverContent) (cmd : Cmd) (cmds : List Cmd) (puts : ℕ → List ℕ) (asks : ℕ → Request) (put : PutsAgree (descs_in d) (owners_in d) cmds puts) where
  added_agrees : Adds d cmd c → Agrees (descs_in d) (owners_in d) cmds asks → Agrees (descs_in c) (owners_in c) (cmds ++ cmd ∷ []) (asks_then d cmd asks)
  added_agrees (opens k) h =
      agrees_alike (descs_in d ++ k.desc ∷ []) (descs_in c) (owners_in d) (owners_in c) (cmds ++ commands.OpenEp k.desc ∷ []) (cmds ++ cmd ∷ []) (asks_then d cmd asks) k.descs k.owners
      (ap (λ (z : Cmd). cmds ++ z ∷ []) k.is)
      (agrees_open (descs_in d) (owners_in d) cmds (asks_then d cmd asks) k.desc k.new_name put.within (agrees_same (descs_in d) (owners_in d) cmds asks (asks_then d cmd asks) (then_owned d cmd asks) h))
  added_agrees (asks_one k) h =
      agrees_alike (descs_in d) (descs_in c) (owners_in d ++ k.number ∷ []) (owners_in c) (cmds ++ commands.Control k.name k.setup k.bytes ∷ []) (cmds ++ cmd ∷ []) (asks_then d cmd asks) k.descs k.owners
      (ap (λ (z : Cmd). cmds ++ z ∷ []) k.is)
      (agrees_request (descs_in d) (owners_in d) cmds asks (asks_then d cmd asks) k.number k.desc k.name k.setup k.bytes k.here k.named put.apart (then_owned d cmd asks)
      (ap (λ (z : Cmd). asks_then d z asks (length (owners_in d))) k.is ∙ ask_last d k.name k.setup k.bytes asks) h)
  added_agrees (others k) h =
      agrees_alike (descs_in d) (descs_in c) (owners_in d ++ k.more) (owners_in c) (cmds ++ cmd ∷ []) (cmds ++ cmd ∷ []) (asks_then d cmd asks) k.descs k.owners refl
      (agrees_others (descs_in d) (owners_in d) cmds (asks_then d cmd asks) cmd k.more k.no_request k.none (agrees_same (descs_in d) (owners_in d) cmds asks (asks_then d cmd asks) (then_owned d cmd asks) h))

module _ (fixed : Fixed) (w : World) (n : ℕ) (cmd : Cmd) (taken : List (ℕ × Line)) (puts : ℕ → List ℕ) (asks : ℕ → Request) (before : AllByRecursion (λ (l : ℕ × Line). l.0 < n) taken) (sent : PutsAreTaken w.driver (report_of fixed w) taken puts) (h : RequestsAreTaken w.driver (report_of fixed w) taken asks) where
  it : ℕ × Line
  it = (n, lines.Command cmd)

  accepted_requests : (o : Offered) → Adds w.driver cmd o.driver → SameLines w.driver o.driver
      → RequestsAreTaken o.driver (report_of fixed (record w { driver = o.driver; memory = o.memory })) (taken ++ it ∷ []) (asks_then w.driver cmd asks)
  unfolding it
  accepted_requests o adds same =
      let r = report_of fixed w in
      let now = report_of fixed (record w { driver = o.driver; memory = o.memory }) in
      let alike : (k : ℕ) → is_refused now k ≡ is_refused r k = λ k. ap (refuses k) same.reports in
      let is : accepted_in now (n, lines.Command cmd) ≡ Some cmd = ap (λ (b : Bool). if b then None else Some cmd) (alike n ∙ number_new w.driver r n taken puts before sent) in
      from_lists o.driver now (taken ++ (n, lines.Command cmd) ∷ []) (asks_then w.driver cmd asks)
      (subst (λ (z : List Cmd). Agrees (descs_in o.driver) (owners_in o.driver) z (asks_then w.driver cmd asks))
      (sym (accepted_push now taken (n, lines.Command cmd) (Some cmd) is ∙ ap (λ (z : List Cmd). z ++ cmd ∷ []) (alike_accepted r now taken (each_alike r now taken alike))))
      (added_agrees w.driver o.driver cmd (accepted_of r taken) puts asks (to_agrees w.driver r taken puts sent) adds (to_lists w.driver r taken asks h)))

  -- the refusal is the report's last line
  refused_also : (why : OfferError) (k : ℕ) → is_refused (report_of fixed (record w { driver = refused_line w.driver n (name_in cmd) why })) k ≡ (is_refused (report_of fixed w) k || (n == k))
  refused_also why k = refuses_more k w.driver.reports _

  or_new : (a b : Bool) → b ≡ false → (a || b) ≡ a
  or_new true b is = refl
  or_new false b is = is

  or_true : (a b : Bool) → b ≡ true → (a || b) ≡ true
  or_true true b is = refl
  or_true false b is = is

  earlier : (k : ℕ) → k < n → (n == k) ≡ false
  earlier k low = by (n == k) refl
    where
      by : (b : Bool) → (n == k) ≡ b → b ≡ false
      by false is = refl
      by true is = let same = eqb-true n k is in absurd (omega (arith, low, same))

  refused_requests : (why : OfferError)
      → RequestsAreTaken (refused_line w.driver n (name_in cmd) why) (report_of fixed (record w { driver = refused_line w.driver n (name_in cmd) why })) (taken ++ it ∷ []) (asks_then w.driver cmd asks)
  unfolding it
  refused_requests why =
      let r = report_of fixed w in
      let d = refused_line w.driver n (name_in cmd) why in
      let now = report_of fixed (record w { driver = d }) in
      let alike = all_more (λ (l : ℕ × Line). l.0 < n) (λ (l : ℕ × Line). is_refused now l.0 ≡ is_refused r l.0) taken
      (λ l low. refused_also why l.0 ∙ or_new (is_refused r l.0) (n == l.0) (earlier l.0 low)) before in
      let on : is_refused now n ≡ true = refused_also why n ∙ or_true (is_refused r n) (n == n) (eq-eqb n n refl) in
      let is : accepted_in now (n, lines.Command cmd) ≡ None = ap (λ (b : Bool). if b then None else Some cmd) on in
      from_lists d now (taken ++ (n, lines.Command cmd) ∷ []) (asks_then w.driver cmd asks)
      (subst (λ (z : List Cmd). Agrees (descs_in d) (owners_in d) z (asks_then w.driver cmd asks))
      (sym (accepted_push now taken (n, lines.Command cmd) None is ∙ append-nil (accepted_of now taken) ∙ alike_accepted r now taken alike))
      (agrees_same (descs_in d) (owners_in d) (accepted_of r taken) asks (asks_then w.driver cmd asks) (then_owned w.driver cmd asks) (to_lists w.driver r taken asks h)))

  answered_requests : (a : Result Offered OfferError) → IfAccepted (Adds w.driver cmd) a → Lines w.driver a
      → RequestsAreTaken (commanded_by w n (name_in cmd) a).driver (report_of fixed (commanded_by w n (name_in cmd) a)) (taken ++ it ∷ []) (asks_then w.driver cmd asks)
  answered_requests (Ok o) adds same = accepted_requests o adds same
  answered_requests (Err why) adds same = refused_requests why

pub command_takes_requests : CommandTakesRequests
unfolding it
command_takes_requests fixed w n cmd taken puts asks before sent h =
    answered_requests fixed w n cmd taken puts asks before sent h (offered w.driver w.memory cmd) (command_asks w.driver w.memory cmd) (offer_lines w.driver w.memory cmd)
