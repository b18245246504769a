-- The queue head of an interrupt endpoint whose open was accepted may be linked, since its name is new: its first store is under way.
use Rattle.std.proofs.Common.{◌≡◌, ℕ, cond, Bool, true, false, List, [], ◌∷◌, ◌++◌, length, get_or, Option, Some, None, option_map, ap, refl, sym, ◌∙◌, ⊎_elim, arith}
use Rattle.std.specs.List.{AllByRecursion, list_any}
use Rattle.std.proofs.lemmas.Bool.{and_parts, or_cases, eqb-true, false≢true}
use Rattle.std.proofs.lemmas.Option.{slice_get_past}
use Rattle.law_common.proofs.Lists.{pushed_last, pushed_there}
use Rattle.word_mem.specs.Memory.{Mem}
use Rattle.drv_chains.specs.declared.members.Member.{Member}
use Rattle.drv_chains.specs.declared.members.QueueHead.{QueueHead as Queue}
use Rattle.drv_chains.specs.Chains.{id_of}
use Rattle.drv_members.specs.Members.{is_this}
use Rattle.drv_periodic.specs.Periodic.{Periodic, begun, inserting}
use Rattle.drv_periodic_table.specs.Linking.{may_link}
use Rattle.drv_periodic_table.specs.Periodic.{queue_name, queue_member}
use Rattle.drv_table.specs.declared.content.Endpoint.{Endpoint}
use Rattle.drv_table.specs.DriverContent.{DriverContent}
use Rattle.drv_table.specs.Accepting.{Offered, new_runs}
use Rattle.drv_table.specs.Offers.{placed_endpoint}
use Rattle.claims_driver.specs.FrameListMembers.{Framed, framed_of, framed_in}
use Rattle.law_driver.specs.listed_queues.Queues.{queue_of}
use Rattle.law_driver.specs.listed_members.Members.{IsQueueOf}
use Rattle.law_driver.specs.in_place.InPlace.{IsInPlace}
use Rattle.claims_driver.specs.Leaving.{HasOwners}
use Rattle.claims_driver.specs.Owners.{Owner, QueueHead}
use Rattle.law_driver.specs.run_owners.Accepts.{Chains}
use Rattle.law_driver.proofs.lemmas.listed_members.Standing.{frames_placed}

-- one of these queue heads has the name of r
record HasName (Q : Queue → Type 0) (r : Queue) : Type 0 where
  one : Queue
  is : Q one
  name : one.id ≡ r.id

any_named : (Q : Queue → Type 0) (r : Queue) (qs : List Queue) → AllByRecursion Q qs → list_any (is_this r) qs ≡ true → HasName Q r
any_named Q r [] all on = absurd (false≢true on)
any_named Q r (q ∷ qs) all on =
    ⊎_elim {C = HasName Q r} (λ (first : is_this r q ≡ true). record { one = q; is = all.0; name = eqb-true q.id r.id (and_parts _ _ first).0 })
    (λ (later : list_any (is_this r) qs ≡ true). any_named Q r qs all.1 later) (or_cases (is_this r q) (list_any (is_this r) qs) on)

-- the number of the endpoint whose queue head it is
number_of : Owner → ℕ
number_of (QueueHead e) = e
number_of _ = 0

module _ (m : Mem) (d : DriverContent) (o : Offered) (why : Chains d m o) (old : IsInPlace m d) (now : IsInPlace o.memory o.driver) where
  abbrev queue : ℕ
  queue = get_or (new_runs d why.holding_after) 0 0

  abbrev new : Endpoint
  new = placed_endpoint why.desc why.placement queue (get_or (new_runs d why.holding_after) 1 0)

  abbrev member : Member
  member = queue_member queue why.placement

  has : HasOwners o.driver
  has = now.sound.owners

  ends : o.driver.endpoints ≡ d.endpoints ++ new ∷ []
  ends = ap (λ (g : Offered). g.driver.endpoints) why.is

  at : framed_in o.driver.endpoints (length d.endpoints) ≡ Some (framed_of new)
  at = ap (λ (xs : List Endpoint). framed_in xs (length d.endpoints)) ends ∙ ap (option_map framed_of) (pushed_last d.endpoints new)

  its_own : has.owner queue ≡ QueueHead (length d.endpoints)
  its_own = (frames_placed o.driver (length d.endpoints) (framed_of new) has at refl why.queued).owned

  -- none of those that are linked is in its block
  none_named : HasName (IsQueueOf d) (queue_of (framed_of new) why.placement) → ⊥
  unfolding number_of
  none_named k =
      let q : IsQueueOf d k.one = k.is in
      let name : k.one.id ≡ queue_name q.framed.queue = ap id_of q.is in
      let same = k.name in
      let block : q.framed.queue ≡ queue = omega (arith, name, same) in
      let here : framed_in o.driver.endpoints q.number ≡ Some q.framed =
      ap (λ (xs : List Endpoint). framed_in xs q.number) ends ∙ pushed_there framed_of d.endpoints new q.number q.framed q.here in
      let owned : has.owner q.framed.queue ≡ QueueHead q.number = (frames_placed o.driver q.number q.framed has here q.chained q.queued).owned in
      let number : q.number ≡ length d.endpoints = ap number_of (sym owned ∙ ap has.owner block ∙ its_own) in
      absent q.framed (sym (ap (option_map framed_of) (slice_get_past d.endpoints q.number (omega (arith, number)))) ∙ q.here)
    where
      absent : (x : Framed) → ◌≡◌ {A = Option Framed} None (Some x) → ⊥
      absent x same = cc

  may : may_link d.periodic.list (queue_member queue why.placement) ≡ true
  may = by (may_link d.periodic.list member) refl
    where
      by : (b : Bool) → may_link d.periodic.list member ≡ b → may_link d.periodic.list member ≡ true
      by true is = is
      by false off =
          let list : o.driver.periodic.list ≡ d.periodic.list =
          ap (λ (g : Offered). g.driver.periodic.list) why.is ∙ ap (λ (b : Bool). cond b (inserting d.periodic.list member) d.periodic.list) off in
          let linked = now.queues.each (length d.endpoints) (framed_of new) why.placement at refl why.queued refl in
          let before : list_any (is_this (queue_of (framed_of new) why.placement)) d.periodic.list.members.schedule.queues ≡ true =
          ap (λ (p : Periodic). list_any (is_this (queue_of (framed_of new) why.placement)) p.members.schedule.queues) (sym list) ∙ linked in
          absurd (none_named (any_named (IsQueueOf d) (queue_of (framed_of new) why.placement) d.periodic.list.members.schedule.queues old.sound.listed.list.members.queues before))

  pub chain_begun : o.driver.periodic.list.work ≡ Some (begun (queue_member (get_or (new_runs d why.holding_after) 0 0) why.placement) false)
  chain_begun =
      ap (λ (g : Offered). g.driver.periodic.list.work) why.is
      ∙ ap (λ (b : Bool). (cond b (inserting d.periodic.list member) d.periodic.list).work) may
