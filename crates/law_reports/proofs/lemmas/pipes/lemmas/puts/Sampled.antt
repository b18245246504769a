-- The worked rows.
use Rattle.std.proofs.Common.{◌≡◌, ℕ, zero, suc, List, [], ◌∷◌, ◌++◌, slice_get, Option, Some, None, true, ap, refl, sym, subst, ◌∙◌}
use Rattle.std.proofs.Common.{inr}
use Rattle.claims_base.specs.Prefix.{IsPrefix}
use Rattle.drv_table.specs.declared.content.Endpoint.{Endpoint}
use Rattle.drv_table.specs.declared.content.Transfer.{Transfer}
use Rattle.law_driver_ring.specs.fed_queues.Places.{IsThere}
use Rattle.law_world.specs.streams.put_laws.OwedTaken.{TakenBegin}
use Rattle.law_world.specs.streams.put_laws.TakenPuts.{puts_at}
use Rattle.law_reports.specs.pipes.puts.Paid.{HasPaid}
use Rattle.law_reports.proofs.lemmas.pipes.lemmas.puts.PaidMoments.{scripts_are_paid, paid_begins}
use Rattle.std.proofs.lemmas.Bool.{eqb-true, true≢false}
use Rattle.usb_base.specs.declared.commands.Cmd.TheVariants as commands
use Rattle.std.proofs.lemmas.Option.{same_Some}
use Rattle.usb_base.specs.declared.endpoints.EpDesc.{EpDesc}
use Rattle.usb_base.specs.declared.endpoints.EpName.{EpName}
use Rattle.script_types.specs.declared.scripts.Event.{Event}
use Rattle.script_types.specs.declared.scripts.Event.TheVariants as events
use Rattle.script_types.specs.declared.scripts.Line.{Line}
use Rattle.script_types.specs.declared.scripts.Line.TheVariants as lines
use Rattle.bus_wire.specs.Bus.{fixed_of}
use Rattle.claims_driver.specs.Scripts.{receives}
use Rattle.bus_world.specs.Budgets.{moment}
use Rattle.law_ring.specs.Hand.{Empty}
use Rattle.law_ring.specs.OutBus.{Taker}
use Rattle.law_structures.specs.lent_structures.Structures.{StructureSets}
use Rattle.law_devices.specs.scripted_takers.Takers.{taker_of}
use Rattle.law_driver.specs.queued_drivers.CommandsWorked.{second}
use Rattle.law_opened.specs.Opened.{IsOpened}
use Rattle.law_opened.specs.Samples.{sink, beside_split}
use Rattle.law_queues.specs.whole_sends.Samples.{order, ahead, behind, parts, parts_halted, member, owned, queue_of, working}
use Rattle.law_queues.specs.whole_sends.Whole.{AreSentWhole}
use Rattle.law_queues.proofs.lemmas.whole_sends.Sampled.{sent_whole, halted_whole}
use Rattle.law_world.specs.steps.Streaming.{wired}
use Rattle.law_world.specs.streams.sending_worlds.ReportLaws.{HasNamedTaker}
use Rattle.law_world.specs.memory.Samples.{keyboard, disk, keyboard_and_disk}
use Rattle.law_world.proofs.lemmas.memory.Sampled.{two_are_mixed}
use Rattle.law_reports.specs.pipes.Declared.{sides_of}
use Rattle.law_reports.specs.pipes.PipedLaws.{DeclaresOpens}
use Rattle.law_reports.specs.pipes.Samples.{alone}
use Rattle.law_reports.proofs.lemmas.pipes.FollowedMoments.{scripts_are_followed}
use Rattle.law_reports.proofs.lemmas.pipes.lemmas.high_streams.Names.{beside_mixed}
use Rattle.law_reports.proofs.lemmas.pipes.lemmas.high_streams.Opened.{moments_are_opened}
use Rattle.law_reports.specs.pipes.puts.Sent.{AreSent, HasSent}
use Rattle.law_reports.specs.pipes.puts.Samples.{standing_of, cut_short, lone_world, took_seven, with_puts, one_put}
use Rattle.law_reports.specs.pipes.puts.Takers.{HaveHighTakers, TakenBeginsPuts}
use Rattle.law_reports.proofs.lemmas.pipes.lemmas.puts.HighTakers.{followed_have_takers}
use Rattle.law_reports.proofs.lemmas.pipes.lemmas.puts.Moments.{scripts_are_sent}

at_one : (these : StructureSets) → AreSentWhole order (ahead ++ behind) Empty 64 (these 64) → AreSent (standing_of these) member
at_one these k n on = subst (λ (i : ℕ). AreSentWhole order (ahead ++ behind) Empty i (these i)) (sym (eqb-true n 64 on)) k

pub working_sent : AreSent (standing_of parts) member
working_sent = at_one parts sent_whole

pub halted_sent : AreSent (standing_of parts_halted) member
halted_sent = at_one parts_halted halted_whole

three_left : ◌≡◌ {A = ℕ} 3 0 → ⊥
three_left is = cc

pub short_not_sent : AreSent (standing_of (owned (queue_of working cut_short))) member → ⊥
short_not_sent k = three_left ((k 64 refl).whole 192 cut_short refl refl refl)

-- ---- a script with a put

pub beside_declares : DeclaresOpens beside_split
beside_declares = (refl, (refl, (refl, (tt, (tt, (tt, (tt, tt)))))))

pub beside_moments : (k : ℕ) → HasSent (fixed_of beside_split) (sides_of beside_split) (moment beside_split k).world
beside_moments k = scripts_are_sent beside_split beside_mixed.fits beside_mixed.bytes beside_mixed.opens beside_declares k

pub beside_paid : (k : ℕ) → HasPaid (fixed_of beside_split) (sides_of beside_split) (puts_at beside_split k) (moment beside_split k).world
beside_paid k = scripts_are_paid beside_split beside_mixed.fits beside_mixed.bytes beside_mixed.opens beside_declares k

pub beside_begins : TakenBeginsPuts beside_split
beside_begins k = paid_begins beside_split (puts_at beside_split k) (moment beside_split k).world (beside_paid k)

pub beside_takers : (k : ℕ) → HaveHighTakers beside_split (moment beside_split k).world
beside_takers k =
    followed_have_takers beside_split (moment beside_split k).world
    (scripts_are_followed beside_split beside_mixed.fits beside_mixed.bytes beside_mixed.opens beside_declares k)

-- ---- no device

none_taker : (t : Taker) → taker_of (wired (fixed_of alone) lone_world) 2 2 ≡ Some t → ⊥
none_taker t is = cc

pub lone_takers : HaveHighTakers alone lone_world → ⊥
lone_takers k =
    let t : HasNamedTaker (fixed_of alone) lone_world sink.name =
    k 0 (record second { desc = sink }) refl (record { on = refl; stream = refl; speed = refl }) refl in
    none_taker t.taker t.is

-- ---- a script without an OUT endpoint

open_of : (a b : EpDesc) → lines.Command (commands.OpenEp a) ≡ lines.Command (commands.OpenEp b) → a ≡ b
open_of a b is = cc

-- the line that stands there opens x
line_is : (x : EpDesc) (l : ℕ × Line) (n : ℕ) → ◌≡◌ {A = Option (ℕ × Line)} (Some l) (Some (n, lines.Command (commands.OpenEp x)))
    → l.1 ≡ lines.Command (commands.OpenEp x)
line_is x l n is = ap (λ (p : ℕ × Line). p.1) (same_Some l (n, lines.Command (commands.OpenEp x)) is)

its_way : (a x : EpDesc) → receives a.name.way ≡ true → lines.Command (commands.OpenEp a) ≡ lines.Command (commands.OpenEp x)
    → receives x.name.way ≡ true
its_way a x in_way is = ap (λ (d : EpDesc). receives d.name.way) (sym (open_of a x is)) ∙ in_way

no_order : (e : Event) (k : ℕ) (x : EpDesc) → lines.Order e k ≡ lines.Command (commands.OpenEp x) → ⊥
no_order e k x is = cc

no_get : (name : EpName) (a b : ℕ) (x : EpDesc) → lines.Command (commands.Get name a b) ≡ lines.Command (commands.OpenEp x) → ⊥
no_get name a b x is = cc

no_micro : (k : ℕ) (x : EpDesc) → lines.Micro k ≡ lines.Command (commands.OpenEp x) → ⊥
no_micro k x is = cc

none_past : (l : ℕ × Line) → ◌≡◌ {A = Option (ℕ × Line)} None (Some l) → ⊥
none_past l is = cc

opens_in : (x : EpDesc) (place n : ℕ) → slice_get keyboard_and_disk.lines place ≡ Some (n, lines.Command (commands.OpenEp x))
    → receives x.name.way ≡ true
opens_in x zero n is = its_way keyboard x refl (line_is x (6, lines.Command (commands.OpenEp keyboard)) n is)
opens_in x (suc zero) n is = absurd (no_order events.D 9 x (line_is x (7, lines.Order events.D 9) n is))
opens_in x (suc (suc zero)) n is = its_way disk x refl (line_is x (8, lines.Command (commands.OpenEp disk)) n is)
opens_in x (suc (suc (suc zero))) n is = absurd (no_order events.D 2 x (line_is x (9, lines.Order events.D 2) n is))
opens_in x (suc (suc (suc (suc zero)))) n is =
    absurd (no_get keyboard.name 8 8 x (line_is x (10, lines.Command (commands.Get keyboard.name 8 8)) n is))
opens_in x (suc (suc (suc (suc (suc zero))))) n is = absurd (no_order events.D 9 x (line_is x (11, lines.Order events.D 9) n is))
opens_in x (suc (suc (suc (suc (suc (suc zero)))))) n is = absurd (no_micro 2 x (line_is x (12, lines.Micro 2) n is))
opens_in x (suc (suc (suc (suc (suc (suc (suc place))))))) n is = absurd (none_past (n, lines.Command (commands.OpenEp x)) is)

pub no_puts_begin : TakenBeginsPuts keyboard_and_disk
no_puts_begin k e x t here high leaves is =
    let o : IsOpened keyboard_and_disk x.desc = moments_are_opened keyboard_and_disk two_are_mixed.fits k e x here in
    absurd (true≢false (sym (opens_in x.desc o.place o.number o.here) ∙ leaves))

-- ---- a device that took a byte

is_seven : (t : Taker) → took_seven 0 0 0 ≡ Some t → t.taken ≡ 7 ∷ []
is_seven t is = ap (λ (u : Taker). u.taken) (same_Some t (record { taken = 7 ∷ []; expects = true }) (sym is))

none_past_it : (e : ℕ) (x : Endpoint) (ts : List Transfer) → slice_get (with_puts ts).endpoints (suc e) ≡ Some x → ⊥
none_past_it zero x ts is = cc
none_past_it (suc e) x ts is = cc

pub put_seven : TakenBegin took_seven (with_puts (one_put ∷ [])) (λ t. 7 ∷ 8 ∷ []) 0
put_seven zero x t here life sends is = (8 ∷ [], ap (λ (bytes : List ℕ). bytes ++ 8 ∷ []) (is_seven t is))
put_seven (suc e) x t here life sends is = absurd (none_past_it e x (one_put ∷ []) here)

is_there : (ts : List Transfer) → IsThere (with_puts ts) (record second { desc = sink })
is_there ts = record { linked = λ is. cc; kept = refl }

seven_eight : (rest : List ℕ) → (7 ∷ []) ++ rest ≡ 8 ∷ [] → ⊥
seven_eight rest is = cc

seven_none : (rest : List ℕ) → (7 ∷ []) ++ rest ≡ [] → ⊥
seven_none rest is = cc

pub put_other : TakenBegin took_seven (with_puts (one_put ∷ [])) (λ t. 8 ∷ []) 0 → ⊥
put_other k =
    let begins : IsPrefix (7 ∷ []) (8 ∷ []) =
    k 0 (record second { desc = sink }) (record { taken = 7 ∷ []; expects = true }) refl (inr (is_there (one_put ∷ []))) refl refl in
    seven_eight begins.0 begins.1

pub put_nothing : TakenBegin took_seven (with_puts []) (λ t. 7 ∷ []) 0 → ⊥
put_nothing k =
    let begins : IsPrefix (7 ∷ []) [] =
    k 0 (record second { desc = sink }) (record { taken = 7 ∷ []; expects = true }) refl (inr (is_there [])) refl refl in
    seven_none begins.0 begins.1
