-- An event leaves what was put, and a command with a later number is one more of the lines that were taken.
use Rattle.std.proofs.Common.{◌≡◌, ℕ, ◌+◌, ◌<◌, Bool, true, false, ◌||◌, ◌==◌, List, [], ◌∷◌, ◌++◌, length, filter_map, Option, Some, None, Result, Ok, Err, ap, sym, subst, refl, ◌∙◌, ⊎_elim, inl, inr, length-append, arith}
use Rattle.std.specs.Prelude.{◌⊎◌, if◌then◌else◌}
use Rattle.std.specs.List.{AllByRecursion, concat, cons_option}
use Rattle.std.proofs.lemmas.Bool.{eq-eqb, eqb-true}
use Rattle.std.proofs.lemmas.List.{append-nil, length-map}
use Rattle.std.proofs.lemmas.List.Elements.{filter_map-append}
use Rattle.law_world.proofs.Common.{each_alike}
use Rattle.law_common.proofs.Options.{either_none}
use Rattle.law_common.proofs.Lists.{still_there, pushed_last, all_more, nth_all}
use Rattle.usb_base.specs.declared.commands.Cmd.{Cmd}
use Rattle.usb_base.specs.declared.commands.Cmd.TheVariants as commands
use Rattle.usb_base.specs.declared.endpoints.EpDesc.{EpDesc}
use Rattle.usb_base.specs.declared.endpoints.EpName.{EpName}
use Rattle.usb_base.specs.declared.reports.OfferError.{OfferError}
use Rattle.script_types.specs.declared.scripts.Event.{Event}
use Rattle.script_types.specs.declared.scripts.Event.TheVariants as events
use Rattle.script_types.specs.declared.scripts.Line.{Line}
use Rattle.script_types.specs.declared.scripts.Line.TheVariants as lines
use Rattle.bus_wire.specs.Bus.{Fixed}
use Rattle.drv_table.specs.DriverContent.{DriverContent}
use Rattle.drv_table.specs.Accepting.{Offered}
use Rattle.drv_table.specs.Offers.{offered}
use Rattle.claims_report.specs.Reports.{WholeReport}
use Rattle.claims_report.specs.Streams.{is_refused, command_in, accepted_in, open_in, put_in, has_stream}
use Rattle.claims_driver.specs.Scripts.{receives}
use Rattle.bus_world.specs.World.{World, driver_parts, driver_next, next, name_in, refused_line, commanded, commanded_by}
use Rattle.bus_world.proofs.Offering.{SameLines, Lines, offer_lines}
use Rattle.claims_world.specs.Streams.{report_of}
use Rattle.law_world.specs.streams.put_laws.HeldPuts.{puts_then}
use Rattle.law_world.specs.streams.put_laws.TakenPuts.{puts_of, IsOpen, IsCommandAmong, PutsAreTaken}
use Rattle.law_world.proofs.lemmas.streams.lemmas.put_laws.Mapped.{was_mapped, mapped}
use Rattle.law_world.proofs.lemmas.streams.lemmas.put_laws.Stays.{desc_at, owner_at, descs_in, owners_in, refuses, refuses_more, event_stays}
use Rattle.law_world.proofs.lemmas.streams.lemmas.put_laws.TakenAccepted.{Adds, opens, puts as puts_one, others, IfAccepted, command_adds}
use Rattle.law_world.proofs.lemmas.streams.lemmas.put_laws.Sums.{by_owners}
use Rattle.law_world.proofs.lemmas.streams.lemmas.put_laws.Agreeing.{IsAmong, Agrees, agrees_open, agrees_put, agrees_others, agrees_same}

-- the commands among these lines that the report doesn't refuse
abbrev pub accepted_of : WholeReport → List (ℕ × Line) → List Cmd
accepted_of r taken = filter_map (accepted_in r) taken

-- ---- of a driver, and of its lists

pub to_agrees : (d : DriverContent) (r : WholeReport) (taken : List (ℕ × Line)) (puts : ℕ → List ℕ) → PutsAreTaken d r taken puts → Agrees (descs_in d) (owners_in d) (accepted_of r taken) puts
to_agrees d r taken puts h = record {
  each = λ e x here on out.
      let w = was_mapped desc_at d.endpoints e x here in
      ap concat (sym (by_owners puts e 0 d.transfers))
      ∙ subst (λ (z : EpDesc). concat (puts_of d puts e) ≡ concat (filter_map (put_in z.name) (accepted_of r taken))) w.2
      (h.each e w.0 w.1 (ap (λ (z : EpDesc). has_stream z.kind) w.2 ∙ on) (ap (λ (z : EpDesc). receives z.name.way) w.2 ∙ out));
  others = λ name none. h.others name (λ e x here. none e x.desc (mapped desc_at d.endpoints e x here));
  opened = all_more (IsOpen d) (IsAmong (descs_in d)) (filter_map open_in (accepted_of r taken))
      (λ desc k. record { number = k.number; here = mapped desc_at d.endpoints k.number k.endpoint k.here ∙ ap Some k.same }) h.opened;
  apart = λ e k x y here there same.
      let v = was_mapped desc_at d.endpoints e x here in
      let w = was_mapped desc_at d.endpoints k y there in
      h.apart e k v.0 w.0 v.1 w.1 (ap (λ (z : EpDesc). z.name) v.2 ∙ same ∙ sym (ap (λ (z : EpDesc). z.name) w.2));
  within = λ t e here.
      let w = was_mapped owner_at d.transfers t e here in
      let low = h.within t w.0 w.1 in
      let long = length-map d.endpoints desc_at in
      omega (arith, low, long, w.2);
}

pub from_agrees : (d : DriverContent) (r : WholeReport) (taken : List (ℕ × Line)) (puts : ℕ → List ℕ) → Agrees (descs_in d) (owners_in d) (accepted_of r taken) puts
    → ((n : ℕ) → is_refused r n ≡ true → IsCommandAmong taken n) → PutsAreTaken d r taken puts
from_agrees d r taken puts h refused = record {
  each = λ e x here on out. ap concat (by_owners puts e 0 d.transfers) ∙ h.each e x.desc (mapped desc_at d.endpoints e x here) on out;
  others = λ name none. h.others name (λ e x here same. let w = was_mapped desc_at d.endpoints e x here in none e w.0 w.1 (ap (λ (z : EpDesc). z.name) w.2 ∙ same));
  opened = all_more (IsAmong (descs_in d)) (IsOpen d) (filter_map open_in (accepted_of r taken))
      (λ desc k. let w = was_mapped desc_at d.endpoints k.number desc k.here in record { number = k.number; endpoint = w.0; here = w.1; same = w.2 }) h.opened;
  refused = refused;
  apart = λ e k x y here there same. h.apart e k x.desc y.desc (mapped desc_at d.endpoints e x here) (mapped desc_at d.endpoints k y there) same;
  within = λ t y here.
      let low = h.within t y.endpoint (mapped owner_at d.transfers t y here) in
      let long = length-map d.endpoints desc_at in
      omega (arith, low, long);
}

agrees_alike : (descs descs_now : List EpDesc) (owners owners_now : List ℕ) (cmds cmds_now : List Cmd) (puts : ℕ → List ℕ) → descs_now ≡ descs → owners_now ≡ owners → cmds_now ≡ cmds
    → Agrees descs owners cmds puts → Agrees descs_now owners_now cmds_now puts
agrees_alike descs descs_now owners owners_now cmds cmds_now puts a b c h =
    subst (λ (z : List EpDesc). Agrees z owners_now cmds_now puts) (sym a) (subst (λ (z : List ℕ). Agrees descs z cmds_now puts) (sym b) (subst (λ (z : List Cmd). Agrees descs owners z puts) (sym c) h))

-- ---- what the report refuses of these lines

-- of each line the same as before
alike_accepted : (r now : WholeReport) (taken : List (ℕ × Line)) → AllByRecursion (λ (l : ℕ × Line). is_refused now l.0 ≡ is_refused r l.0) taken → accepted_of now taken ≡ accepted_of r taken
alike_accepted r now [] same = refl
alike_accepted r now (l ∷ ls) same =
    ap (λ (b : Bool). cons_option (if b then None else command_in l.1) (accepted_of now ls)) same.0
    ∙ ap (λ (rest : List Cmd). cons_option (accepted_in r l) rest) (alike_accepted r now ls same.1)

-- the driver and the report may change otherwise
pub puts_stay : (d c : DriverContent) (r now : WholeReport) (taken : List (ℕ × Line)) (puts : ℕ → List ℕ) → descs_in c ≡ descs_in d → owners_in c ≡ owners_in d → ((n : ℕ) → is_refused now n ≡ is_refused r n)
    → PutsAreTaken d r taken puts → PutsAreTaken c now taken puts
puts_stay d c r now taken puts descs owners refusals h =
    from_agrees c now taken puts
    (agrees_alike (descs_in d) (descs_in c) (owners_in d) (owners_in c) (accepted_of r taken) (accepted_of now taken) puts descs owners (alike_accepted r now taken (each_alike r now taken refusals)) (to_agrees d r taken puts h))
    (λ n is. h.refused n (sym (refusals n) ∙ is))

-- ---- an event

pub event_keeps_puts : (fixed : Fixed) (w : World) (event : Event) (taken : List (ℕ × Line)) (puts : ℕ → List ℕ) → PutsAreTaken w.driver (report_of fixed w) taken puts
    → PutsAreTaken (next fixed w event).driver (report_of fixed (next fixed w event)) taken puts
event_keeps_puts fixed w events.D taken puts h =
    let stays = event_stays (driver_parts w) in
    puts_stay w.driver (driver_next w).driver (report_of fixed w) (report_of fixed (driver_next w)) taken puts stays.descs stays.owners stays.refusals h
event_keeps_puts fixed w events.C taken puts h = puts_stay w.driver w.driver (report_of fixed w) (report_of fixed (next fixed w events.C)) taken puts refl refl (λ n. refl) h

-- ---- a line that is no command

accepted_push : (r : WholeReport) (taken : List (ℕ × Line)) (l : ℕ × Line) (o : Option Cmd) → accepted_in r l ≡ o → accepted_of r (taken ++ l ∷ []) ≡ accepted_of r taken ++ cons_option o []
accepted_push r taken l o is = filter_map-append (accepted_in r) taken (l ∷ []) ∙ ap (λ (z : Option Cmd). accepted_of r taken ++ cons_option z []) is

command_push : (taken : List (ℕ × Line)) (l : ℕ × Line) (n : ℕ) → IsCommandAmong taken n → IsCommandAmong (taken ++ l ∷ []) n
command_push taken l n k = record { at = k.at; cmd = k.cmd; here = still_there taken (l ∷ []) k.at (n, lines.Command k.cmd) k.here }

pub silent_puts : (d : DriverContent) (r : WholeReport) (taken : List (ℕ × Line)) (l : ℕ × Line) (puts : ℕ → List ℕ) → command_in l.1 ≡ None → PutsAreTaken d r taken puts → PutsAreTaken d r (taken ++ l ∷ []) puts
silent_puts d r taken l puts none h =
    from_agrees d r (taken ++ l ∷ []) puts
    (subst (λ (z : List Cmd). Agrees (descs_in d) (owners_in d) z puts)
    (sym (accepted_push r taken l None (either_none (is_refused r l.0) (command_in l.1) none) ∙ append-nil (accepted_of r taken))) (to_agrees d r taken puts h))
    (λ n is. command_push taken l n (h.refused n is))

-- ---- a command

-- its number isn't refused yet
number_new : (d : DriverContent) (r : WholeReport) (n : ℕ) (taken : List (ℕ × Line)) (puts : ℕ → List ℕ) → AllByRecursion (λ (l : ℕ × Line). l.0 < n) taken → PutsAreTaken d r taken puts → is_refused r n ≡ false
number_new d r n taken puts before h = by (is_refused r n) refl
  where
    by : (b : Bool) → is_refused r n ≡ b → b ≡ false
    by false is = refl
    by true is =
        let k = h.refused n is in
        let low = nth_all (λ (l : ℕ × Line). l.0 < n) taken k.at (n, lines.Command k.cmd) before k.here in
        absurd (omega (arith, low))

-- the puts of the transfers that the driver has
pub then_before : (d : DriverContent) (cmd : Cmd) (puts : ℕ → List ℕ) (t : ℕ) → t < length d.transfers → puts_then d cmd puts t ≡ puts t
then_before d (commands.Put name bytes by) puts t low = at (t == length d.transfers) refl
  where
    at : (b : Bool) → (t == length d.transfers) ≡ b → (if b then bytes else puts t) ≡ puts t
    at false is = refl
    at true is = let same = eqb-true t (length d.transfers) is in absurd (omega (arith, low, same))
then_before d (commands.OpenEp x) puts t low = refl
then_before d (commands.Get name len by) puts t low = refl
then_before d (commands.Control name setup bytes) puts t low = refl
then_before d (commands.Iso name count len seed) puts t low = refl
then_before d (commands.Cancel name) puts t low = refl
then_before d _ puts t low = refl

then_owned : (d : DriverContent) (cmd : Cmd) (puts : ℕ → List ℕ) (t : ℕ) → t < length (owners_in d) → puts_then d cmd puts t ≡ puts t
then_owned d cmd puts t low = let long = length-map d.transfers owner_at in then_before d cmd puts t (omega (arith, low, long))

put_last : (d : DriverContent) (name : EpName) (bytes : List ℕ) (by : ℕ) (puts : ℕ → List ℕ) → puts_then d (commands.Put name bytes by) puts (length (owners_in d)) ≡ bytes
put_last d name bytes by puts =
    ap (λ (b : Bool). if b then bytes else puts (length (owners_in d))) (eq-eqb (length (owners_in d)) (length d.transfers) (length-map d.transfers owner_at))

module _ (d c : DriverContent) (cmd : Cmd) (cmds : List Cmd) (puts : ℕ → List ℕ) where
  added_agrees : Adds d cmd c → Agrees (descs_in d) (owners_in d) cmds puts → Agrees (descs_in c) (owners_in c) (cmds ++ cmd ∷ []) (puts_then d cmd puts)
  added_agrees (opens k) h =
      agrees_alike (descs_in d ++ k.desc ∷ []) (descs_in c) (owners_in d) (owners_in c) (cmds ++ commands.OpenEp k.desc ∷ []) (cmds ++ cmd ∷ []) (puts_then d cmd puts) k.descs k.owners
      (ap (λ (z : Cmd). cmds ++ z ∷ []) k.is)
      (agrees_open (descs_in d) (owners_in d) cmds (puts_then d cmd puts) k.desc k.new_name (agrees_same (descs_in d) (owners_in d) cmds puts (puts_then d cmd puts) (then_owned d cmd puts) h))
  added_agrees (puts_one k) h =
      agrees_alike (descs_in d) (descs_in c) (owners_in d ++ k.number ∷ []) (owners_in c) (cmds ++ commands.Put k.name k.bytes k.by ∷ []) (cmds ++ cmd ∷ []) (puts_then d cmd puts) k.descs k.owners
      (ap (λ (z : Cmd). cmds ++ z ∷ []) k.is)
      (agrees_put (descs_in d) (owners_in d) cmds puts (puts_then d cmd puts) k.number k.desc k.name k.bytes k.by k.here k.named (then_owned d cmd puts)
      (ap (λ (z : Cmd). puts_then d z puts (length (owners_in d))) k.is ∙ put_last d k.name k.bytes k.by puts) h)
  added_agrees (others k) h =
      agrees_alike (descs_in d) (descs_in c) (owners_in d ++ k.more) (owners_in c) (cmds ++ cmd ∷ []) (cmds ++ cmd ∷ []) (puts_then d cmd puts) k.descs k.owners refl
      (agrees_others (descs_in d) (owners_in d) cmds (puts_then d cmd puts) cmd k.more k.no_put k.no_open k.none (agrees_same (descs_in d) (owners_in d) cmds puts (puts_then d cmd puts) (then_owned d cmd puts) h))

module _ (fixed : Fixed) (w : World) (n : ℕ) (cmd : Cmd) (taken : List (ℕ × Line)) (puts : ℕ → List ℕ) (before : AllByRecursion (λ (l : ℕ × Line). l.0 < n) taken) (h : PutsAreTaken w.driver (report_of fixed w) taken puts) where
  it : ℕ × Line
  it = (n, lines.Command cmd)

  accepted_puts : (o : Offered) → Adds w.driver cmd o.driver → SameLines w.driver o.driver
      → PutsAreTaken o.driver (report_of fixed (record w { driver = o.driver; memory = o.memory })) (taken ++ it ∷ []) (puts_then w.driver cmd puts)
  unfolding it
  accepted_puts o adds same =
      let r = report_of fixed w in
      let now = report_of fixed (record w { driver = o.driver; memory = o.memory }) in
      let alike : (k : ℕ) → is_refused now k ≡ is_refused r k = λ k. ap (refuses k) same.reports in
      let is : accepted_in now (n, lines.Command cmd) ≡ Some cmd = ap (λ (b : Bool). if b then None else Some cmd) (alike n ∙ number_new w.driver r n taken puts before h) in
      from_agrees o.driver now (taken ++ (n, lines.Command cmd) ∷ []) (puts_then w.driver cmd puts)
      (subst (λ (z : List Cmd). Agrees (descs_in o.driver) (owners_in o.driver) z (puts_then w.driver cmd puts))
      (sym (accepted_push now taken (n, lines.Command cmd) (Some cmd) is ∙ ap (λ (z : List Cmd). z ++ cmd ∷ []) (alike_accepted r now taken (each_alike r now taken alike))))
      (added_agrees w.driver o.driver cmd (accepted_of r taken) puts adds (to_agrees w.driver r taken puts h)))
      (λ k on. command_push taken (n, lines.Command cmd) k (h.refused k (sym (alike k) ∙ on)))

  -- the refusal is the report's last line
  refused_also : (why : OfferError) (k : ℕ) → is_refused (report_of fixed (record w { driver = refused_line w.driver n (name_in cmd) why })) k ≡ (is_refused (report_of fixed w) k || (n == k))
  refused_also why k = refuses_more k w.driver.reports _

  or_either : (a b : Bool) → (a || b) ≡ true → (a ≡ true) ⊎ (b ≡ true)
  or_either true b is = inl refl
  or_either false b is = inr is

  or_new : (a b : Bool) → b ≡ false → (a || b) ≡ a
  or_new true b is = refl
  or_new false b is = is

  or_true : (a b : Bool) → b ≡ true → (a || b) ≡ true
  or_true true b is = refl
  or_true false b is = is

  earlier : (k : ℕ) → k < n → (n == k) ≡ false
  earlier k low = by (n == k) refl
    where
      by : (b : Bool) → (n == k) ≡ b → b ≡ false
      by false is = refl
      by true is = let same = eqb-true n k is in absurd (omega (arith, low, same))

  refused_puts : (why : OfferError)
      → PutsAreTaken (refused_line w.driver n (name_in cmd) why) (report_of fixed (record w { driver = refused_line w.driver n (name_in cmd) why })) (taken ++ it ∷ []) (puts_then w.driver cmd puts)
  unfolding it
  refused_puts why =
      let r = report_of fixed w in
      let d = refused_line w.driver n (name_in cmd) why in
      let now = report_of fixed (record w { driver = d }) in
      let alike = all_more (λ (l : ℕ × Line). l.0 < n) (λ (l : ℕ × Line). is_refused now l.0 ≡ is_refused r l.0) taken
      (λ l low. refused_also why l.0 ∙ or_new (is_refused r l.0) (n == l.0) (earlier l.0 low)) before in
      let on : is_refused now n ≡ true = refused_also why n ∙ or_true (is_refused r n) (n == n) (eq-eqb n n refl) in
      let is : accepted_in now (n, lines.Command cmd) ≡ None = ap (λ (b : Bool). if b then None else Some cmd) on in
      from_agrees d now (taken ++ (n, lines.Command cmd) ∷ []) (puts_then w.driver cmd puts)
      (subst (λ (z : List Cmd). Agrees (descs_in d) (owners_in d) z (puts_then w.driver cmd puts))
      (sym (accepted_push now taken (n, lines.Command cmd) None is ∙ append-nil (accepted_of now taken) ∙ alike_accepted r now taken alike))
      (agrees_same (descs_in d) (owners_in d) (accepted_of r taken) puts (puts_then w.driver cmd puts) (then_owned w.driver cmd puts) (to_agrees w.driver r taken puts h)))
      (λ k refused. ⊎_elim (λ (was : is_refused r k ≡ true). command_push taken (n, lines.Command cmd) k (h.refused k was))
      (λ (own : (n == k) ≡ true).
      record { at = length taken; cmd = cmd; here = pushed_last taken (n, lines.Command cmd) ∙ ap (λ (z : ℕ). Some (z, lines.Command cmd)) (eqb-true n k own) })
      (or_either (is_refused r k) (n == k) (sym (refused_also why k) ∙ refused)))

  answered_puts : (a : Result Offered OfferError) → IfAccepted (Adds w.driver cmd) a → Lines w.driver a
      → PutsAreTaken (commanded_by w n (name_in cmd) a).driver (report_of fixed (commanded_by w n (name_in cmd) a)) (taken ++ it ∷ []) (puts_then w.driver cmd puts)
  answered_puts (Ok o) adds same = accepted_puts o adds same
  answered_puts (Err why) adds same = refused_puts why

pub command_takes_puts : (fixed : Fixed) (w : World) (n : ℕ) (cmd : Cmd) (taken : List (ℕ × Line)) (puts : ℕ → List ℕ) → AllByRecursion (λ (l : ℕ × Line). l.0 < n) taken
    → PutsAreTaken w.driver (report_of fixed w) taken puts
    → PutsAreTaken (commanded w n cmd).driver (report_of fixed (commanded w n cmd)) (taken ++ (n, lines.Command cmd) ∷ []) (puts_then w.driver cmd puts)
unfolding it
command_takes_puts fixed w n cmd taken puts before h =
    answered_puts fixed w n cmd taken puts before h (offered w.driver w.memory cmd) (command_adds w.driver w.memory cmd) (offer_lines w.driver w.memory cmd)

-- ---- transfers stay

length_same : (d c : DriverContent) → owners_in c ≡ owners_in d → length c.transfers ≡ length d.transfers
length_same d c same = sym (length-map c.transfers owner_at) ∙ ap length same ∙ length-map d.transfers owner_at

length_more : (d c : DriverContent) (more : List ℕ) (t : ℕ) → owners_in c ≡ owners_in d ++ more → t < length d.transfers → t < length c.transfers
length_more d c more t same low =
    let one = length-map c.transfers owner_at in
    let two = length-map d.transfers owner_at in
    let all : length (owners_in c) ≡ length (owners_in d) + length more = ap length same ∙ length-append (owners_in d) more in
    omega (arith, one, two, all, low)

added_there : (d c : DriverContent) (cmd : Cmd) (t : ℕ) → Adds d cmd c → t < length d.transfers → t < length c.transfers
added_there d c cmd t (opens k) low = let same = length_same d c k.owners in omega (arith, same, low)
added_there d c cmd t (puts_one k) low = length_more d c (k.number ∷ []) t k.owners low
added_there d c cmd t (others k) low = length_more d c k.more t k.owners low

answered_there : (w : World) (n : ℕ) (cmd : Cmd) (t : ℕ) (a : Result Offered OfferError) → IfAccepted (Adds w.driver cmd) a → t < length w.driver.transfers → t < length (commanded_by w n (name_in cmd) a).driver.transfers
answered_there w n cmd t (Ok o) adds low = added_there w.driver o.driver cmd t adds low
answered_there w n cmd t (Err why) adds low = low

pub command_there : (w : World) (n : ℕ) (cmd : Cmd) (t : ℕ) → t < length w.driver.transfers → t < length (commanded w n cmd).driver.transfers
command_there w n cmd t low = answered_there w n cmd t (offered w.driver w.memory cmd) (command_adds w.driver w.memory cmd) low

pub event_there : (fixed : Fixed) (w : World) (event : Event) (t : ℕ) → t < length w.driver.transfers → t < length (next fixed w event).driver.transfers
event_there fixed w events.D t low = let same = length_same w.driver (driver_next w).driver (event_stays (driver_parts w)).owners in omega (arith, same, low)
event_there fixed w events.C t low = low
