-- Isochronous transactions ask none of the streams at high speed: an iTD or a siTD names an isochronous endpoint, which has none.
use Rattle.std.proofs.Common.{◌≡◌, ℕ, zero, suc, ◌*◌, ◌<◌, ◌&&◌, Bool, true, false, List, [], ◌∷◌, length, arith, slice_get, Option, Some}
use Rattle.std.proofs.Common.{None, option_map, ap, refl, sym, subst, ◌∙◌, if◌then◌else◌}
use Rattle.std.proofs.lemmas.Bool.{false≢true, true≢false}
use Rattle.std.proofs.lemmas.Option.{same_Some}
use Rattle.law_microframes.proofs.Common.{words_are}
use Rattle.usb_base.specs.declared.endpoints.EpDesc.{EpDesc}
use Rattle.usb_base.specs.declared.packets.Ask.{Ask}
use Rattle.usb_base.specs.declared.packets.EpKind.{EpKind}
use Rattle.usb_base.specs.declared.packets.EpKind.TheVariants as kinds
use Rattle.usb_base.specs.declared.packets.Pid.{Pid}
use Rattle.usb_base.specs.declared.packets.Pid.TheVariants as pids
use Rattle.usb_base.specs.declared.packets.Way.{Way}
use Rattle.usb_base.specs.declared.packets.Way.TheVariants as ways
use Rattle.word_mem.specs.Views.{words_at}
use Rattle.itd_sitd.specs.declared.itd.Itd.{Itd}
use Rattle.itd_sitd.specs.declared.sitd.Sitd.{Sitd}
use Rattle.claims_report.specs.Streams.{has_stream}
use Rattle.claims_driver.specs.Owners.{TransferRuns, is_descriptor, runs_of_transfer, views_of}
use Rattle.drv_periodic_table.specs.Periodic.{note_at}
use Rattle.drv_periodic_table.specs.Descriptors.{is_in}
use Rattle.drv_table.specs.declared.content.Endpoint.{Endpoint}
use Rattle.drv_table.specs.declared.content.Transfer.{Transfer}
use Rattle.drv_table.specs.DriverContent.{DriverContent}
use Rattle.drv_table.specs.Kinds.{is_iso}
use Rattle.drv_table.specs.Words.{is_high}
use Rattle.law_structures.specs.lent_structures.Structures.{Isochronous, SplitIsochronous, Structures, HoldsIsochronous}
use Rattle.law_structures.specs.lent_structures.Structures.{HoldsSplitIsochronous}
use Rattle.law_ring.specs.Bus.{IsStreamAsk}
use Rattle.law_ring.specs.OutBus.{IsOutAsk}
use Rattle.law_frames.specs.FrameStreams.{AsksIso, IsIsoAsk, of_itd, of_sitd}
use Rattle.law_driver_ring.specs.Inventory.{OfIsochronous, OfSplitIsochronous, sort_of}
use Rattle.law_descriptors.specs.Both.{owns, both}
use Rattle.law_descriptors.specs.Described.{HasDescriptor}
use Rattle.law_descriptors.proofs.Standing.{both_on, both_off, IsAtOwner, on_owner}
use Rattle.law_world.specs.memory.Mixed.{Standing, IsMixedAt}
use Rattle.law_microframes.proofs.lemmas.visits.BelongDescriptors.{not_driven}
use Rattle.law_microframes.proofs.lemmas.visits.BelongItds.{told_is}
use Rattle.bus_world.specs.World.{World}
use Rattle.law_reports.specs.pipes.Declared.{Sides, IsDeclaredBy, AreDeclared}
use Rattle.law_reports.specs.pipes.DescriptorNames.{TellsName, TellsBy, AreDescriptorsNamed, NamesKeepBeside}
use Rattle.law_reports.proofs.lemmas.pipes.NameWords.{ItdTells, SitdTells, words_sitd_tell}

-- ---- an isochronous endpoint has no stream

iso_streams : (kind : EpKind) (b : Bool) → is_iso kind ≡ true → (has_stream kind && b) ≡ false
iso_streams kinds.Iso b iso = refl
iso_streams _ b iso = absurd (false≢true iso)

in_way : (way : Way) → is_in way ≡ true → way ≡ ways.In
in_way ways.In is = refl
in_way ways.Out is = absurd (false≢true is)
in_way ways.Ctl is = absurd (false≢true is)

in_or_out : Pid → Bool
in_or_out pids.In = true
in_or_out _ = false

asked_in : (b : Bool) → (if b then pids.In else pids.Out) ≡ pids.In → b ≡ true
unfolding in_or_out
asked_in true is = refl
asked_in false is = ap in_or_out is

asked_out : (b : Bool) → (if b then pids.In else pids.Out) ≡ pids.Out → b ≡ false
unfolding in_or_out
asked_out true is = ap in_or_out is
asked_out false is = refl

no_out : (x : Sides) (d : EpDesc) (way : Way) → is_iso d.kind ≡ true → is_in way ≡ false → IsDeclaredBy x d way
    → x.takes d.name.addr d.name.num ≡ false
no_out x d ways.In iso is k = absurd (true≢false is)
no_out x d ways.Out iso is k = k ∙ iso_streams d.kind (is_high d.speed) iso
no_out x d ways.Ctl iso is k = k.1

no_in : (x : Sides) (d : EpDesc) (way : Way) → is_iso d.kind ≡ true → is_in way ≡ true → IsDeclaredBy x d way
    → x.sends d.name.addr d.name.num ≡ false
no_in x d ways.In iso is k = k ∙ iso_streams d.kind (is_high d.speed) iso
no_in x d ways.Out iso is k = absurd (false≢true is)
no_in x d ways.Ctl iso is k = absurd (false≢true is)

-- ---- whose it is

-- an isochronous endpoint of the driver, with this name
pub record IsNamedIso (d : DriverContent) (addr ep : ℕ) (dir_in : Bool) : Type 0 where
  pub number : ℕ
  pub endpoint : Endpoint
  pub here : slice_get d.endpoints number ≡ Some endpoint
  pub iso : is_iso endpoint.desc.kind ≡ true
  pub named : TellsName addr ep dir_in endpoint.desc

module _ (x : Sides) (s : Standing) (w : World) (k : IsMixedAt s w) (declared : AreDeclared x w.driver)
    (names : AreDescriptorsNamed w.driver w.memory) where
  abbrev d : DriverContent
  d = w.driver

  -- the transfer whose descriptor stands there
  record IsDescriptorOf (n : ℕ) : Type 0 where
    number : ℕ
    transfer : Transfer
    there : slice_get w.driver.transfers number ≡ Some transfer
    sort : is_descriptor transfer.sort ≡ true
    held : transfer.released ≡ false
    at : n ≡ 32 * transfer.first
    has : HasDescriptor (note_at w.driver.periodic.notes transfer.first).split (s.descs n) n

  runs_found : (t : ℕ) (o : Option Transfer) (y : TransferRuns) → slice_get w.driver.transfers t ≡ o
      → option_map runs_of_transfer o ≡ Some y
      → y.released ≡ false → y.isochronous ≡ true → (n : ℕ) → n ≡ 32 * y.first
      → HasDescriptor ((views_of w.driver).descriptor y.first).split (s.descs (32 * y.first)) (32 * y.first) → IsDescriptorOf n
  runs_found t None y here is held iso n at has = absurd cc
  runs_found t (Some z) y here is held iso n at has =
      let same : runs_of_transfer z ≡ y = same_Some (runs_of_transfer z) y is in
      let first : z.first ≡ y.first = ap (λ (r : TransferRuns). r.first) same in
      record {
        number = t;
        transfer = z;
        there = here;
        sort = ap (λ (r : TransferRuns). r.isochronous) same ∙ iso;
        held = ap (λ (r : TransferRuns). r.released) same ∙ held;
        at = at ∙ ap (λ (b : ℕ). 32 * b) (sym first);
        has = subst (λ (i : ℕ). HasDescriptor (note_at d.periodic.notes z.first).split (s.descs i) i) (sym at)
            (subst (λ (b : ℕ). HasDescriptor (note_at d.periodic.notes b).split (s.descs (32 * y.first)) (32 * y.first)) (sym first) has);
      }

  descriptor_at : (n : ℕ) → owns s.descs n ≡ true → IsDescriptorOf n
  descriptor_at n on =
      let a : IsAtOwner (views_of d) n = on_owner (views_of d) s.descs n k.now.framed.described on in
      runs_found a.number (slice_get d.transfers a.number) a.transfer refl a.lent.here a.lent.held a.lent.isochronous n a.name
      (k.now.framed.described.descriptors a.number a.transfer a.lent)

  named_by : (n : ℕ) (i : IsDescriptorOf n) (split : Bool) → (note_at w.driver.periodic.notes i.transfer.first).split ≡ split
      → (e : Option Endpoint) → slice_get w.driver.endpoints i.transfer.endpoint ≡ e → (addr ep : ℕ) (dir_in : Bool)
      → ((y : Endpoint) → TellsBy split w.memory i.transfer.first y.desc → TellsName addr ep dir_in y.desc)
      → IsNamedIso w.driver addr ep dir_in
  named_by n i split is None at addr ep dir_in tells =
      absurd (none_there d.endpoints i.transfer.endpoint (k.now.framed.place.sound.owners.orderly.within i.number i.transfer i.there) at)
    where
      none_there : (xs : List Endpoint) (e : ℕ) → e < length xs → slice_get xs e ≡ None → ⊥
      none_there [] e low gone = omega (arith, low)
      none_there (v ∷ vs) zero low gone = cc
      none_there (v ∷ vs) (suc e) low gone = none_there vs e (omega (arith, low)) gone
  named_by n i split is (Some y) at addr ep dir_in tells = record {
    number = i.transfer.endpoint;
    endpoint = y;
    here = at;
    iso = sym (k.now.framed.place.sound.owners.orderly.sorts i.number i.transfer y i.there at) ∙ i.sort;
    named = tells y (subst (λ (c : Bool). TellsBy c w.memory i.transfer.first y.desc) is
        (names i.number i.transfer y i.there i.sort i.held at));
  }

  itd_split : (split : Bool) (part : Structures) (n : ℕ) (v : Itd) → part n ≡ Some (Isochronous v) → HasDescriptor split part n
      → split ≡ false
  itd_split false part n v here h = refl
  itd_split true part n v here h =
      absurd (let e : Isochronous v ≡ SplitIsochronous h.sitd = same_Some (Isochronous v) (SplitIsochronous h.sitd)
      (sym here ∙ h.here) in cc)

  sitd_split : (split : Bool) (part : Structures) (n : ℕ) (v : Sitd) → part n ≡ Some (SplitIsochronous v) → HasDescriptor split part n
      → split ≡ true
  sitd_split true part n v here h = refl
  sitd_split false part n v here h =
      absurd (let e : SplitIsochronous v ≡ Isochronous h.itd = same_Some (SplitIsochronous v) (Isochronous h.itd) (sym here ∙ h.here) in cc)

  -- a structure of a queue is none
  owned_itd : (n : ℕ) (v : Itd) → both s.descs s.parts n n ≡ Some (Isochronous v) → (c : Bool) → owns s.descs n ≡ c → c ≡ true
  owned_itd n v here true on = refl
  owned_itd n v here false off =
      absurd (not_driven d k.now.framed.place.sound.owners s.descs s.parts k.now.framed.driven k.now.framed.described n n OfIsochronous
      (k.now.framed.driven.only n n OfIsochronous (ap (λ (part : Structures). option_map sort_of (part n))
      (sym (both_off s.descs s.parts n off)) ∙ ap (option_map sort_of) here)) refl)

  owned_sitd : (n : ℕ) (v : Sitd) → both s.descs s.parts n n ≡ Some (SplitIsochronous v) → (c : Bool) → owns s.descs n ≡ c → c ≡ true
  owned_sitd n v here true on = refl
  owned_sitd n v here false off =
      absurd (not_driven d k.now.framed.place.sound.owners s.descs s.parts k.now.framed.driven k.now.framed.described n n OfSplitIsochronous
      (k.now.framed.driven.only n n OfSplitIsochronous (ap (λ (part : Structures). option_map sort_of (part n))
      (sym (both_off s.descs s.parts n off)) ∙ ap (option_map sort_of) here)) refl)

  pub itd_named : (n : ℕ) (v : Itd) → both s.descs s.parts n n ≡ Some (Isochronous v) → IsNamedIso w.driver v.addr v.ep v.dir_in
  itd_named n v here =
      let on : owns s.descs n ≡ true = owned_itd n v here (owns s.descs n) refl in
      let i : IsDescriptorOf n = descriptor_at n on in
      let here_in : s.descs n n ≡ Some (Isochronous v) = ap (λ (part : Structures). part n) (sym (both_on s.descs s.parts n on)) ∙ here in
      let holds : HoldsIsochronous w.memory n v = k.now.framed.runs.ring.tells.each n n (Isochronous v) here in
      named_by n i false (itd_split (note_at d.periodic.notes i.transfer.first).split (s.descs n) n v here_in i.has)
      (slice_get d.endpoints i.transfer.endpoint) refl v.addr v.ep v.dir_in
      (λ y h. subst (λ (u : Itd). TellsName u.addr u.ep u.dir_in y.desc) (told_is w.memory n v holds)
      (subst (λ (a : ℕ). ItdTells (words_at w.memory a 16) y.desc) (sym i.at) h))

  pub sitd_named : (n : ℕ) (v : Sitd) → both s.descs s.parts n n ≡ Some (SplitIsochronous v) → IsNamedIso w.driver v.addr v.ep v.dir_in
  sitd_named n v here =
      let on : owns s.descs n ≡ true = owned_sitd n v here (owns s.descs n) refl in
      let i : IsDescriptorOf n = descriptor_at n on in
      let here_in : s.descs n n ≡ Some (SplitIsochronous v) = ap (λ (part : Structures). part n) (sym (both_on s.descs s.parts n on))
      ∙ here in
      let holds : HoldsSplitIsochronous w.memory n v = k.now.framed.runs.ring.tells.each n n (SplitIsochronous v) here in
      named_by n i true (sitd_split (note_at d.periodic.notes i.transfer.first).split (s.descs n) n v here_in i.has)
      (slice_get d.endpoints i.transfer.endpoint) refl v.addr v.ep v.dir_in
      (λ y h. subst (λ (u : Sitd). TellsName u.addr u.ep u.dir_in y.desc) (words_are w.memory n v holds)
      (subst (λ (a : ℕ). SitdTells (words_at w.memory a 7) y.desc) (sym i.at) (words_sitd_tell w.memory i.transfer.first y.desc h)))

  -- ---- what is asked

  in_of : (addr ep : ℕ) (dir_in : Bool) (ask : Ask) → IsNamedIso w.driver addr ep dir_in → AsksIso addr ep dir_in ask
      → IsStreamAsk x.sends ask → ⊥
  in_of addr ep dir_in ask i a asked =
      let inward : dir_in ≡ true = asked_in dir_in (sym a.token ∙ asked.token) in
      let none : x.sends i.endpoint.desc.name.addr i.endpoint.desc.name.num ≡ false =
      no_in x i.endpoint.desc i.endpoint.desc.name.way i.iso (sym i.named.way ∙ inward) (declared i.number i.endpoint i.here) in
      true≢false (sym asked.on ∙ ap (λ (c : ℕ). x.sends c ask.ep) (a.address ∙ i.named.address)
      ∙ ap (λ (c : ℕ). x.sends i.endpoint.desc.name.addr c) (a.number ∙ i.named.number) ∙ none)

  out_of : (addr ep : ℕ) (dir_in : Bool) (ask : Ask) → IsNamedIso w.driver addr ep dir_in → AsksIso addr ep dir_in ask
      → IsOutAsk x.takes ask → ⊥
  out_of addr ep dir_in ask i a asked =
      let outward : dir_in ≡ false = asked_out dir_in (sym a.token ∙ asked.token) in
      let none : x.takes i.endpoint.desc.name.addr i.endpoint.desc.name.num ≡ false =
      no_out x i.endpoint.desc i.endpoint.desc.name.way i.iso (sym i.named.way ∙ outward) (declared i.number i.endpoint i.here) in
      true≢false (sym asked.on ∙ ap (λ (c : ℕ). x.takes c ask.ep) (a.address ∙ i.named.address)
      ∙ ap (λ (c : ℕ). x.takes i.endpoint.desc.name.addr c) (a.number ∙ i.named.number) ∙ none)

  ins_beside : (ask : Ask) → IsIsoAsk (both s.descs s.parts) ask → IsStreamAsk x.sends ask → ⊥
  ins_beside ask (of_itd n v here a) asked = in_of v.addr v.ep v.dir_in ask (itd_named n v here) a asked
  ins_beside ask (of_sitd n v here a) asked = in_of v.addr v.ep v.dir_in ask (sitd_named n v here) a asked

  outs_beside : (ask : Ask) → IsIsoAsk (both s.descs s.parts) ask → IsOutAsk x.takes ask → ⊥
  outs_beside ask (of_itd n v here a) asked = out_of v.addr v.ep v.dir_in ask (itd_named n v here) a asked
  outs_beside ask (of_sitd n v here a) asked = out_of v.addr v.ep v.dir_in ask (sitd_named n v here) a asked

pub names_keep_beside : NamesKeepBeside
names_keep_beside x s w k declared names = record {
  ins = ins_beside x s w k declared names;
  outs = outs_beside x s w k declared names;
}
