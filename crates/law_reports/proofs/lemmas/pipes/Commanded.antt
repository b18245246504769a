-- Each command, accepted or refused, leaves the streams so: nothing of them moves, and of a name that it opens nothing moved yet.
use Rattle.std.proofs.Common.{◌≡◌, ℕ, ◌*◌, ◌&&◌, Bool, true, false, List, ◌∷◌, [], ◌++◌, length, slice_get, Some, Result, Ok, Err, ap}
use Rattle.std.proofs.Common.{refl, sym, subst, ◌∙◌, ⊎_elim, arith}
use Rattle.std.specs.Prelude.{◌⊎◌}
use Rattle.std.proofs.lemmas.Bool.{true≢false}
use Rattle.law_common.proofs.Numbers.{zero_one}
use Rattle.law_common.proofs.Lists.{push_which}
use Rattle.law_world.proofs.Common.{none_some, same_queue}
use Rattle.law_driver.proofs.Common.{pushed}
use Rattle.usb_base.specs.declared.commands.Cmd.{Cmd}
use Rattle.usb_base.specs.declared.packets.Way.{Way}
use Rattle.usb_base.specs.declared.packets.Way.TheVariants as ways
use Rattle.usb_base.specs.declared.reports.OfferError.{OfferError}
use Rattle.word_mem.specs.Memory.{Mem}
use Rattle.bus_wire.specs.Bus.{Fixed}
use Rattle.claims_driver.specs.Leaving.{HasOwners}
use Rattle.drv_table.specs.declared.content.Command.TheVariants as unfinished
use Rattle.drv_table.specs.declared.content.Endpoint.{Endpoint}
use Rattle.drv_table.specs.Accepting.{Offered}
use Rattle.drv_table.specs.DriverContent.{DriverContent}
use Rattle.drv_table.specs.Offers.{offered, IsOffered}
use Rattle.law_driver.specs.queued_drivers.Queued.{queued_endpoint, queued}
use Rattle.law_driver.proofs.lemmas.queued_drivers.CommandReasons.{reason_of}
use Rattle.law_driver.proofs.lemmas.ring_members.Placed.{has_queue, queues_apart}
use Rattle.law_driver_ring.specs.fed_queues.Places.{IsMet}
use Rattle.law_world.specs.memory.Mixed.{Standing, IsMixedAt}
use Rattle.law_world.specs.memory.Opens.{OpensMixed}
use Rattle.law_world.specs.memory.pipe_steps.Pipes.{AreStillMet}
use Rattle.law_world.proofs.lemmas.memory.CommandKeeping.{command_keeps_standing}
use Rattle.law_reports.specs.lines.Lined.{in_hand, Lines, IsTelling, AreIsoGoing}
use Rattle.law_reports.proofs.lemmas.lines.Commanding.{command_keeps_telling}
use Rattle.law_reports.proofs.lemmas.lines.CommandedGoing.{command_goes}
use Rattle.bus_world.specs.World.{World, refused_line, name_in, commanded_by, commanded}
use Rattle.law_reports.specs.pipes.Declared.{Sides, IsDeclared, AreDeclared}
use Rattle.law_reports.specs.pipes.Piped.{Heads, asked_as, IsOpening, AreFresh, IsNewHead, HaveNewHeads, IsPiped}
use Rattle.law_reports.specs.pipes.DescriptorNames.{AreDescriptorsNamed}
use Rattle.law_reports.specs.pipes.PipedLaws.{OpensDeclared}
use Rattle.law_reports.proofs.lemmas.pipes.NamesCommanded.{command_keeps_names}
use Rattle.law_reports.proofs.lemmas.pipes.Accepted.{IsNewest, is_opening, is_bare, EndsThen, one_more, one_anew, ends_then, below}
use Rattle.law_reports.proofs.lemmas.pipes.Accepted.{was_anew, now_anew}
use Rattle.law_reports.proofs.lemmas.pipes.Across.{ComesOf, WasIn, IsNowIn}
use Rattle.law_reports.proofs.lemmas.pipes.Carried.{fresh_carried, declared_carried, named_carried, by_way_carried}
use Rattle.law_reports.proofs.lemmas.pipes.Names.{queue_same, kept_as}

on_and : (a b : Bool) → (a ≡ true → b ≡ true) → a ≡ (a && b)
on_and true b on = sym (on refl)
on_and false b on = refl

module _ (fixed : Fixed) (x : Sides) (s : Standing) (m : Lines) (h : Heads) (w : World) (k : IsPiped fixed x s m h w) where
  ins_still : AreStillMet s.near h.ins h.ins
  ins_still n = on_and (h.ins n) (s.near n) (λ on. k.pipes.in_ends.members n on)

  outs_still : AreStillMet s.near h.outs h.outs
  outs_still n = on_and (h.outs n) (s.near n) (λ on. k.pipes.out_ends.members n on)

  -- the driver's content and memory change, and the same queue heads are met
  module _ (f : DriverContent) (mem : Mem) (mixed : IsMixedAt s (record w { driver = f; memory = mem }))
      (telling : IsTelling s m (record w { driver = f; memory = mem })) (going : AreIsoGoing f)
      (was : (e : ℕ) (z : Endpoint) → slice_get f.endpoints e ≡ Some z → IsMet (queued f) e (queued_endpoint z)
      → WasIn w.driver.endpoints e z) (declared : AreDeclared x f) (named : AreDescriptorsNamed f mem) (heads : HaveNewHeads f s)
      (fresh : (way : Way) (has : ℕ → ℕ → Bool) (P : ℕ → ℕ → Type 0) → AreFresh w.driver way has P → AreFresh f way has P) where
    pub with_driver : IsPiped fixed x s m h (record w { driver = f; memory = mem })
    with_driver = record {
      mixed = mixed;
      telling = telling;
      going = going;
      declared = declared;
      descriptors = named;
      named = named_carried w.driver f s.near s.near k.mixed.now.framed.place.sound.owners k.mixed.queues.queues.met
          mixed.queues.queues.met was (λ n on. on) h.ends k.named;
      by_way = by_way_carried w.driver f s.near s.near k.mixed.now.framed.place.sound.owners k.mixed.queues.queues.met
          mixed.queues.queues.met was (λ n on. on) x.sends x.takes h.ins h.outs h.ins h.outs h.ends ins_still outs_still k.by_way;
      pipes = k.pipes;
      new_heads = heads;
      fresh_ins = fresh ways.In x.sends _ k.fresh_ins;
      fresh_outs = fresh ways.Out x.takes _ k.fresh_outs;
    }

  -- ---- refused

  itself : (y : Endpoint) → ComesOf y y
  itself y = record { desc = refl; queue = refl; alive = λ kept. kept }

  module _ (line : ℕ) (cmd : Cmd) (why : OfferError) where
    abbrev refused : DriverContent
    refused = refused_line w.driver line (name_in cmd) why

    pub refused_piped : IsMixedAt s (commanded_by w line (name_in cmd) (Err why))
        → IsTelling s m (commanded_by w line (name_in cmd) (Err why))
        → AreIsoGoing (refused_line w.driver line (name_in cmd) why) → IsPiped fixed x s m h (commanded_by w line (name_in cmd) (Err why))
    refused_piped mixed telling going =
        with_driver refused w.memory mixed telling going (λ e z here met. record { endpoint = z; here = here; comes = itself z }) k.declared
        k.descriptors
        (λ e y here o made. k.new_heads e y here (record { kept = o.kept; queue = o.queue; command = o.command }) made)
        (λ way has P fresh.
        fresh_carried w.driver refused (λ e y here. record { endpoint = y; here = here; comes = itself y }) (λ q is. is) way has P fresh)

  -- ---- accepted

  module _ (line : ℕ) (cmd : Cmd) (o : Offered) (declares : OpensDeclared x cmd)
      (mixed : IsMixedAt s (commanded_by w line (name_in cmd) (Ok o))) (telling : IsTelling s m (commanded_by w line (name_in cmd) (Ok o)))
      (going : AreIsoGoing o.driver) (names : AreDescriptorsNamed o.driver o.memory) where
    -- an endpoint more
    module _ (y : Endpoint) (ends : o.driver.endpoints ≡ w.driver.endpoints ++ y ∷ []) (kept : y.gone ≡ false)
        (newest : IsNewest o.driver y)
        (fits : IsDeclared x y.desc) where
      pub which : (e : ℕ) (z : Endpoint) → slice_get o.driver.endpoints e ≡ Some z
          → (slice_get w.driver.endpoints e ≡ Some z) ⊎ ((e ≡ length w.driver.endpoints) × (z ≡ y))
      which e z here = push_which w.driver.endpoints y e z (ap (λ (xs : List Endpoint). slice_get xs e) (sym ends) ∙ here)

      now_more : (e : ℕ) (v : Endpoint) → slice_get w.driver.endpoints e ≡ Some v → slice_get o.driver.endpoints e ≡ Some v
      now_more e v here = ap (λ (xs : List Endpoint). slice_get xs e) ends ∙ pushed w.driver.endpoints y e v here

      -- it isn't met
      pub unmet : (e : ℕ) → IsNewest o.driver y → IsMet (queued o.driver) e (queued_endpoint y) → ⊥
      unmet e (is_opening queue opens made) met =
          met.there.linked (opens ∙ ap (λ (q : ℕ). Some (unfinished.Open q)) (sym (queue_same y)))
      unmet e (is_bare iso none) met = true≢false (sym iso ∙ (kept_as y met.there.kept).1)

      was_more : (e : ℕ) (z : Endpoint) → slice_get o.driver.endpoints e ≡ Some z → IsMet (queued o.driver) e (queued_endpoint z)
          → WasIn w.driver.endpoints e z
      was_more e z here met =
          ⊎_elim (λ (at : slice_get w.driver.endpoints e ≡ Some z). record { endpoint = z; here = at; comes = itself z })
          (λ (own : (e ≡ length w.driver.endpoints) × (z ≡ y)).
          absurd (unmet e newest (subst (λ (v : Endpoint). IsMet (queued o.driver) e (queued_endpoint v)) own.1 met))) (which e z here)

      declared_more : AreDeclared x o.driver
      declared_more e z here =
          ⊎_elim (λ (at : slice_get w.driver.endpoints e ≡ Some z). k.declared e z at)
          (λ (own : (e ≡ length w.driver.endpoints) × (z ≡ y)). subst (λ (v : Endpoint). IsDeclared x v.desc) (sym own.1) fits)
          (which e z here)

      -- nothing of it is lent yet
      heads_more : HaveNewHeads o.driver s
      heads_more e z here opening made = by newest
        where
          by : IsNewest o.driver y → IsNewHead s (32 * z.queue) (asked_as z.desc)
          by (is_opening queue opens none) = absurd (zero_one (sym none ∙ made))
          by (is_bare iso none) = absurd (none_some (unfinished.Open z.queue) (sym none ∙ opening.command))

      owners : HasOwners o.driver
      owners = mixed.now.framed.place.sound.owners

      its_place : slice_get o.driver.endpoints (length w.driver.endpoints) ≡ Some y
      its_place = ap (λ (xs : List Endpoint). slice_get xs (length w.driver.endpoints)) ends ∙ last_one w.driver.endpoints
        where
          last_one : (xs : List Endpoint) → slice_get (xs ++ y ∷ []) (length xs) ≡ Some y
          last_one [] = refl
          last_one (v ∷ vs) = last_one vs

      -- another one isn't being opened
      none_opens : (e : ℕ) (v : Endpoint) → slice_get w.driver.endpoints e ≡ Some v → IsOpening o.driver v → IsNewest o.driver y → ⊥
      none_opens e v here opening (is_opening queue opens made) =
          let low = below w.driver.endpoints e v here in
          queues_apart o.driver e (length w.driver.endpoints) v y owners (now_more e v here)
          (has_queue v opening.queue opening.kept) its_place
          (has_queue y queue kept) (λ same. omega (arith, low, same)) (same_queue v.queue y.queue (sym opening.command ∙ opens))
      none_opens e v here opening (is_bare iso none) = none_some (unfinished.Open v.queue) (sym none ∙ opening.command)

      pub fresh_more : (way : Way) (has : ℕ → ℕ → Bool) (P : ℕ → ℕ → Type 0) → AreFresh w.driver way has P → AreFresh o.driver way has P
      fresh_more way has P fresh addr ep on unused =
          fresh addr ep on
          (λ e v here its same also. absurd (none_opens e v here (unused e v (now_more e v here) its same also) newest))

      pub more_piped : IsPiped fixed x s m h (commanded_by w line (name_in cmd) (Ok o))
      more_piped = with_driver o.driver o.memory mixed telling going was_more declared_more names heads_more fresh_more

    accepted_by : EndsThen w.driver o.driver cmd → IsPiped fixed x s m h (commanded_by w line (name_in cmd) (Ok o))
    accepted_by (one_more y asked ends kept newest tells) = more_piped y ends kept newest (subst (OpensDeclared x) asked declares)
    accepted_by (one_anew e y z at ends comes gone never tells) =
        let was : (i : ℕ) (v : Endpoint) → slice_get o.driver.endpoints i ≡ Some v → WasIn w.driver.endpoints i v =
        λ i v here.
        was_anew w.driver.endpoints e y z at comes i v (ap (λ (xs : List Endpoint). slice_get xs i) (sym ends) ∙ here) in
        with_driver o.driver o.memory mixed telling going (λ i v here met. was i v here)
        (declared_carried x w.driver o.driver was k.declared) names
        (λ i v here opening made. absurd (never v.queue opening.command))
        (λ way has P fresh.
        fresh_carried w.driver o.driver
        (λ i v here. subst (λ (xs : List Endpoint). IsNowIn xs i v) (sym ends) (now_anew w.driver.endpoints e y z at comes i v here))
        (λ q is. absurd (never q is)) way has P fresh)

  -- ---- any command

  module _ (line : ℕ) (cmd : Cmd) (fits : OpensMixed cmd) (declares : OpensDeclared x cmd) (room : IsOffered w.driver.room cmd) where
    by_offer : (r : Result Offered OfferError) → offered w.driver w.memory cmd ≡ r → IsMixedAt s (commanded_by w line (name_in cmd) r)
        → IsTelling s m (commanded_by w line (name_in cmd) r) → AreIsoGoing (commanded_by w line (name_in cmd) r).driver
        → AreDescriptorsNamed (commanded_by w line (name_in cmd) r).driver (commanded_by w line (name_in cmd) r).memory
        → IsPiped fixed x s m h (commanded_by w line (name_in cmd) r)
    by_offer (Err why) is mixed telling going names = refused_piped line cmd why mixed telling going
    by_offer (Ok o) is mixed telling going names =
        accepted_by line cmd o declares mixed telling going names (ends_then w.driver w.memory o cmd (reason_of w.driver w.memory cmd o is))

    pub commanded_piped : IsPiped fixed x s m h (commanded w line cmd)
    commanded_piped =
        by_offer (offered w.driver w.memory cmd) refl (command_keeps_standing s w line cmd fits room k.mixed)
        (command_keeps_telling s m w line cmd fits room k.mixed k.telling)
        (command_goes w.driver (in_hand s) s.parts m.reported k.going k.telling.told w line (name_in cmd) cmd
        (offered w.driver w.memory cmd) refl refl) (command_keeps_names s w line cmd fits room k.mixed k.descriptors)
