-- An event of the controller leaves what each put holds.
use Rattle.std.proofs.Common.{◌≡◌, ◌≢◌, ℕ, suc, ◌*◌, ◌≤◌, ◌||◌, Bool, true, false, List, ◌∷◌, length, slice_get, Option, Some, None, option_map, ap, refl, sym, subst, ◌∙◌, ⊎_elim, inl, inr, arith}
use Rattle.std.specs.Prelude.{◌⊎◌}
use Rattle.std.specs.List.{AllByRecursion}
use Rattle.std.proofs.lemmas.Bool.{cases_eq}
use Rattle.std.proofs.lemmas.Option.{same_Some}
use Rattle.law_driver.proofs.Common.{out_way}
use Rattle.usb_base.specs.declared.packets.Ask.{Ask}
use Rattle.usb_base.specs.declared.packets.Reply.{Reply}
use Rattle.usb_base.specs.declared.packets.Way.{Way}
use Rattle.usb_base.specs.declared.packets.Way.TheVariants as ways
use Rattle.word_mem.specs.Memory.{Mem, word_at, reaches}
use Rattle.mem_runs.specs.Book.{holding, Stands}
use Rattle.drv_table.specs.declared.content.Endpoint.{Endpoint}
use Rattle.drv_table.specs.declared.content.Transfer.{Transfer}
use Rattle.drv_table.specs.declared.content.Sort.{Sort}
use Rattle.drv_table.specs.declared.content.Sort.TheVariants as sorts
use Rattle.drv_table.specs.declared.content.Stage.{Stage}
use Rattle.drv_table.specs.declared.content.Command.{Command}
use Rattle.drv_table.specs.declared.content.Command.TheVariants as unfinished
use Rattle.drv_table.specs.DriverContent.{DriverContent}
use Rattle.drv_table.specs.Harvests.{note_at}
use Rattle.drv_table.specs.Kinds.{is_iso}
use Rattle.drv_table.specs.Words.{head_block}
use Rattle.claims_driver.specs.Owners.{Owner, Head, QueueHead, runs_of_endpoint, runs_of_transfer, note_in}
use Rattle.claims_driver.specs.Leaving.{HasOwners}
use Rattle.claims_driver.specs.Scripts.{receives}
use Rattle.law_driver.specs.chained_transfers.Bulk.{sort_by, MovesAs}
use Rattle.law_driver.specs.chained_transfers.Chains.{piece_at}
use Rattle.law_driver.specs.chained_transfers.AsynchronousTurns.{AsynchronousTakesTurns}
use Rattle.law_driver.proofs.lemmas.chained_transfers.Ways.{IsBy, its_told, all_of_all}
use Rattle.law_driver.proofs.lemmas.chained_transfers.BulkAndControl.{not_iso}
use Rattle.law_driver.proofs.lemmas.chained_transfers.Holding.{held_alive}
use Rattle.law_structures.specs.lent_structures.Structures.{StructureSets}
use Rattle.law_structures.specs.lent_structures.Sound.{element_pages, buffer_name}
use Rattle.law_ring.specs.Hand.{Hand}
use Rattle.claims_base.specs.Controller.{Base}
use Rattle.law_ring.specs.Pipes.{IsNotIn}
use Rattle.hc_core.specs.Controller.{Content}
use Rattle.law_controller.specs.controlled_streams.Control.{IsControlled, ControlEffect}
use Rattle.law_driver_ring.specs.fed_queues.Fed.{is_request, AreFed}
use Rattle.law_driver_ring.specs.fed_queues.Places.{IsMet, HasHead, AreMet}
use Rattle.law_queues.specs.fed_lends.ToLend.{AreStagesBy, IsToBeLent}
use Rattle.law_world.specs.streams.put_laws.Held.{held_bytes}
use Rattle.law_world.proofs.lemmas.streams.lemmas.put_laws.Accepting.{held_stays}
use Rattle.law_world.specs.streams.put_laws.HeldLaws.{IsPublishing, OutsAskNoData, EventHoldsPuts}
use Rattle.law_world.proofs.lemmas.streams.lemmas.put_laws.HeldAlike.{note_itself, held_alike}
use Rattle.law_world.proofs.lemmas.streams.lemmas.put_laws.Walking.{event_leaves_buffers}
use Rattle.law_world.proofs.lemmas.streams.lemmas.put_laws.Stored.{IsStored, pieces_stored, buffer_stays, either_way}

-- ---- a put is one of an OUT endpoint

get_no_put : ◌≡◌ {A = Sort} sorts.Get sorts.Put → ⊥
get_no_put e = cc

request_no_put : ◌≡◌ {A = Sort} sorts.Request sorts.Put → ⊥
request_no_put e = cc

pub put_sends : (way : Way) → sort_by way ≡ sorts.Put → receives way ≡ false
put_sends ways.In is = absurd (get_no_put is)
put_sends ways.Out is = refl
put_sends ways.Ctl is = absurd (request_no_put is)

-- ---- what is still to be lent

-- the put waits for its lend, or nothing of it does
abbrev pub Waits : DriverContent → Mem → ℕ → Type 0
Waits d m t = (b : ℕ) × (words : List ℕ) × (k : IsToBeLent d m b words) × (t ≡ k.number)

abbrev pub IsOut : DriverContent → ℕ → Type 0
IsOut d t = suc t ≡ length d.transfers → (b : ℕ) (words : List ℕ) → d.command ≡ Some (unfinished.Publish b words) → 1 ≤ d.made

publish_is : (c : Option Command) (b : ℕ) (words : List ℕ) → c ≡ None → c ≡ Some (unfinished.Publish b words) → ⊥
publish_is c b words none is = let e : ◌≡◌ {A = Option Command} None (Some (unfinished.Publish b words)) = sym none ∙ is in cc

pub waits_or_out : (d : DriverContent) (m : Mem) (t : ℕ) (o : Option Command) → d.command ≡ o → IsPublishing d m → Waits d m t ⊎ IsOut d t
waits_or_out d m t None is publishing = inr (λ newest b words publish. absurd (publish_is d.command b words is publish))
waits_or_out d m t (Some (unfinished.Publish b words)) is publishing =
    ⊎_elim
    (λ (k : IsToBeLent d m b words).
    ⊎_elim (λ (same : t ≡ k.number). inl (b, words, k, same))
    (λ (differs : t ≢ k.number). inr (λ newest c others publish. let one = k.newest in absurd (differs (omega (arith, one, newest))))) (cases_eq t k.number))
    (λ (made : 1 ≤ d.made). inr (λ newest c others publish. made)) (publishing b words is)
waits_or_out d m t (Some (unfinished.Open queue)) is publishing =
    inr (λ newest b words publish. let e : ◌≡◌ {A = Option Command} (Some (unfinished.Open queue)) (Some (unfinished.Publish b words)) = sym is ∙ publish in absurd (cc))
waits_or_out d m t (Some (unfinished.Unlink e b link)) is publishing =
    inr (λ newest c words publish. let f : ◌≡◌ {A = Option Command} (Some (unfinished.Unlink e b link)) (Some (unfinished.Publish c words)) = sym is ∙ publish in absurd (cc))
waits_or_out d m t (Some unfinished.Chain) is publishing =
    inr (λ newest b words publish. let e : ◌≡◌ {A = Option Command} (Some unfinished.Chain) (Some (unfinished.Publish b words)) = sym is ∙ publish in absurd (cc))
waits_or_out d m t (Some (unfinished.Iso e u count)) is publishing =
    inr (λ newest b words publish. let f : ◌≡◌ {A = Option Command} (Some (unfinished.Iso e u count)) (Some (unfinished.Publish b words)) = sym is ∙ publish in absurd (cc))
waits_or_out d m t (Some (unfinished.Unchain e)) is publishing =
    inr (λ newest b words publish. let f : ◌≡◌ {A = Option Command} (Some (unfinished.Unchain e)) (Some (unfinished.Publish b words)) = sym is ∙ publish in absurd (cc))

-- the runs of its buffers are kept, and their words stay
pub waiting_held : (d : DriverContent) (m new : Mem) (t : ℕ) (y : Transfer) (b : ℕ) (words : List ℕ) (k : IsToBeLent d m b words) → t ≡ k.number → slice_get d.transfers t ≡ Some y → y.sort ≡ sorts.Put → Stands (holding d.book m)
    → ((at : ℕ) → reaches m at ≡ false → word_at new at ≡ word_at m at) → held_bytes new d.notes y.first y.qtds ≡ held_bytes m d.notes y.first y.qtds
waiting_held d m new t y b words k number there put stands same =
    let is : y ≡ k.transfer = same_Some y k.transfer (sym there ∙ ap (slice_get d.transfers) number ∙ k.there) in
    let out : k.endpoint.desc.name.way ≡ ways.Out = out_way k.endpoint.desc.name.way (put_sends k.endpoint.desc.name.way (sym k.sort ∙ ap (λ (r : Transfer). r.sort) (sym is) ∙ put)) in
    let stages : AllByRecursion (IsBy ways.Out) (k.stage ∷ k.further) = subst (λ (way : Way). AreStagesBy way (k.stage ∷ k.further)) out k.stages in
    let whole : AllByRecursion (λ (r : Stage). r.told ≡ r.long) (k.stage ∷ k.further) = all_of_all (IsBy ways.Out) (λ (r : Stage). r.told ≡ r.long) (k.stage ∷ k.further) (its_told ways.Out) stages in
    let stays : held_bytes new d.notes k.transfer.first (suc (length k.further)) ≡ held_bytes m d.notes k.transfer.first (suc (length k.further)) =
    held_stays d m new k.number (runs_of_transfer k.transfer) (runs_of_endpoint k.endpoint) k.stage k.further k.awaits stands whole same in
    subst (λ (z : Transfer). held_bytes new d.notes z.first z.qtds ≡ held_bytes m d.notes z.first z.qtds) (sym is)
    (subst (λ (n : ℕ). held_bytes new d.notes k.transfer.first n ≡ held_bytes m d.notes k.transfer.first n) (sym k.awaits.qtds) stays)

-- ---- what is lent

head_no_queue : (e : ℕ) → ◌≡◌ {A = Owner} Head (QueueHead e) → ⊥
head_no_queue e is = cc

pub same_number : (e f : ℕ) → ◌≡◌ {A = Owner} (QueueHead e) (QueueHead f) → e ≡ f
same_number e f is = cc

pub queue_owned : (d : DriverContent) (e : ℕ) (x : Endpoint) (owners : HasOwners d) → AsynchronousTakesTurns d → slice_get d.endpoints e ≡ Some x → x.gone ≡ false → owners.owner x.queue ≡ QueueHead e
queue_owned d e x owners turns here kept =
    let s = turns.asynchronous.endpoints e x here in
    let alive : is_iso x.desc.kind || x.gone ≡ false = ap (λ (b : Bool). b || x.gone) (not_iso x.desc s.asynchronous) ∙ kept in
    (owners.owned.each.queue e (runs_of_endpoint x) (ap (option_map runs_of_endpoint) here) alive).owned

-- a queue head that the walk may meet is that of a met endpoint
its_met : (d : DriverContent) (member : ℕ → Bool) (e : ℕ) (x : Endpoint) → HasOwners d → AsynchronousTakesTurns d → AreMet d member → slice_get d.endpoints e ≡ Some x → x.gone ≡ false → member (32 * x.queue) ≡ true → IsMet d e x
its_met d member e x owners turns met here kept on =
    let own : owners.owner x.queue ≡ QueueHead e = queue_owned d e x owners turns here kept in
    ⊎_elim
    (λ (head : 32 * x.queue ≡ 32 * head_block).
    let block : x.queue ≡ head_block = omega (arith, head) in
    absurd (head_no_queue e (sym owners.owned.each.head.owned ∙ ap owners.owner (sym block) ∙ own)))
    (λ (is : HasHead d (32 * x.queue)).
    let at = is.at in
    let block : x.queue ≡ is.endpoint.queue = omega (arith, at) in
    let number : e ≡ is.number = same_number e is.number (sym own ∙ ap owners.owner block ∙ queue_owned d is.number is.endpoint owners turns is.here is.met.there.kept) in
    let same : x ≡ is.endpoint = same_Some x is.endpoint (sym here ∙ ap (slice_get d.endpoints) number ∙ is.here) in
    subst (λ (z : Endpoint). IsMet d e z) (sym same) (subst (λ (i : ℕ). IsMet d i is.endpoint) (sym number) is.met))
    (met.only (32 * x.queue) on)

module _ {W : Type 0} (begins : W → ℕ → Bool → W → Type 0) (transacts : W → Ask → List ℕ → Reply → W → Type 0) (base : Base) (member : ℕ → Bool) (parts : StructureSets) (hand : Hand) (c new : Content) (wire after : W) (now : StructureSets) (later : Hand) (d : DriverContent) (controlled : IsControlled base member parts hand c) (controlled_now : IsControlled base member now later new) (effect : ControlEffect begins transacts parts hand wire after now later) (owners : HasOwners d) (turns : AsynchronousTakesTurns d) (met : AreMet d member) (fed : AreFed d parts) (outs : OutsAskNoData d parts) where
  lent_held : (t : ℕ) (y : Transfer) → slice_get d.transfers t ≡ Some y → y.sort ≡ sorts.Put → y.released ≡ false → IsOut d t → held_bytes new.memory d.notes y.first y.qtds ≡ held_bytes c.memory d.notes y.first y.qtds
  lent_held t y there put held lent =
      let moves : MovesAs d y = turns.asynchronous.moves t y there in
      let x : Endpoint = moves.endpoint in
      let n = 32 * x.queue in
      let sends : receives x.desc.name.way ≡ false = put_sends x.desc.name.way (sym moves.sort ∙ put) in
      let asks : member n ≡ true → IsNotIn (parts n) = λ on. outs y.endpoint x moves.here (its_met d member y.endpoint x owners turns met moves.here (held_alive d t y x turns.turns there held moves.here) on) sends in
      held_alike c.memory new.memory d.notes d.notes y.first y.qtds (λ i below. note_itself (note_at d.notes (piece_at (note_in d.notes) y.first i)))
      (λ i below.
      let note = note_at d.notes (piece_at (note_in d.notes) y.first i) in
      either_way c.memory new.memory note
      (λ some.
      let s : IsStored (parts n) note = pieces_stored d parts t i y x (ap is_request put) fed there held moves.here lent below some in
      buffer_stays c.memory new.memory parts now n note controlled.ring.tells controlled_now.ring.tells s
      (event_leaves_buffers begins transacts base member parts hand c wire after now later n controlled effect asks (buffer_name s.qtd) (element_pages s.qtd) s.qtd.offset s.bytes s.here)))

pub event_holds_puts : {W : Type 0} (begins : W → ℕ → Bool → W → Type 0) (transacts : W → Ask → List ℕ → Reply → W → Type 0) → EventHoldsPuts begins transacts
event_holds_puts begins transacts base member parts hand c new wire after now later d puts controlled controlled_now effect same owners stands turns met fed publishing outs k = record {
  each = λ t y there put held.
      ⊎_elim
      (λ (w : Waits d c.memory t). waiting_held d c.memory new.memory t y w.0 w.1 w.2 w.3 there put stands same)
      (λ (out : IsOut d t). lent_held begins transacts base member parts hand c new wire after now later d controlled controlled_now effect owners turns met fed outs t y there put held out)
      (waits_or_out d c.memory t d.command refl publishing)
      ∙ k.each t y there put held;
}
