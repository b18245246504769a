-- What an event of the driver, or a command, leaves of a transfer; and that no command puts a descriptor into the frame list.
use Rattle.std.proofs.Common.{◌≡◌, ℕ, zero, suc, ◌<◌, true, false, List, [], ◌∷◌, ◌++◌, length, slice_get, Option, Some, None}
use Rattle.std.proofs.Common.{ap, refl, sym, subst, ◌∙◌, ⊎_elim, arith}
use Rattle.std.specs.Prelude.{slice_index}
use Rattle.std.proofs.lemmas.Bool.{true≢false}
use Rattle.std.proofs.lemmas.Option.{same_Some}
use Rattle.law_common.proofs.Lists.{push_there}
use Rattle.law_common.proofs.Booleans.{either_if}
use Rattle.word_mem.specs.Memory.{Mem}
use Rattle.drv_chains.specs.declared.members.Descriptor.{Descriptor}
use Rattle.drv_chains.specs.declared.members.Member.{Member}
use Rattle.drv_chains.specs.declared.members.Member.TheVariants.{Once, Each}
use Rattle.drv_chains.specs.declared.members.QueueHead.{QueueHead as Queue}
use Rattle.drv_members.specs.Members.{Members, is_linked}
use Rattle.drv_periodic.specs.Periodic.{Periodic, inserting}
use Rattle.drv_periodic_table.specs.Linking.{may_link, linking}
use Rattle.drv_periodic_table.specs.Periodic.{queue_name}
use Rattle.drv_table.specs.declared.content.Command.{Command}
use Rattle.drv_table.specs.declared.content.Command.TheVariants as unfinished
use Rattle.drv_table.specs.declared.content.Transfer.{Transfer}
use Rattle.drv_table.specs.DriverContent.{DriverContent}
use Rattle.drv_table.specs.Accepting.{Offered, new_runs}
use Rattle.drv_table.specs.CancelOffers.{with_cancel, endpoint_members}
use Rattle.drv_table.specs.IsoOffers.{Descriptors}
use Rattle.law_driver.proofs.lemmas.queued_drivers.CommandEnds.{described_more}
use Rattle.law_driver.proofs.lemmas.queued_drivers.CommandLeaves.{unchained}
use Rattle.law_driver.specs.run_owners.Accepts.{Accepts, opens, chains, places, transfers, describes, cancels, unchains}
use Rattle.law_footprints.specs.Changes.{TransferChange, TransfersStep, stays, moved, told, given_back, with_endpoint}
use Rattle.law_world.proofs.lemmas.memory.FrameFlips.{ended_list}
use Rattle.law_world.proofs.lemmas.memory.FrameLeft.{next_members}

-- ---- an event

pub record Keeps (x y : Transfer) : Type 0 where
  pub first : y.first ≡ x.first
  pub sort : y.sort ≡ x.sort
  pub held : y.released ≡ false → x.released ≡ false

change_keeps : (x y : Transfer) → TransferChange x y → Keeps x y
change_keeps x _ stays = record { first = refl; sort = refl; held = λ h. h }
change_keeps x _ (moved place left) = record { first = refl; sort = refl; held = λ h. h }
change_keeps x _ told = record { first = refl; sort = refl; held = λ h. h }
change_keeps x _ given_back = record { first = refl; sort = refl; held = λ bad. absurd (true≢false bad) }
change_keeps x _ (with_endpoint line) = record { first = refl; sort = refl; held = λ bad. absurd (true≢false bad) }

pub record Then (ys : List Transfer) (t : ℕ) (x : Transfer) : Type 0 where
  pub transfer : Transfer
  pub here : slice_get ys t ≡ Some transfer
  pub keeps : Keeps x transfer

pub step_then : (xs ys : List Transfer) → TransfersStep xs ys → (t : ℕ) (x : Transfer) → slice_get xs t ≡ Some x → Then ys t x
step_then [] ys each t x here = absurd (cc)
step_then (v ∷ xs) [] each t x here = absurd each
step_then (v ∷ xs) (y ∷ ys) each zero x here =
    record { transfer = y; here = refl; keeps = subst (λ (z : Transfer). Keeps z y) (same_Some v x here) (change_keeps v y each.0) }
step_then (v ∷ xs) (y ∷ ys) each (suc t) x here =
    let n : Then ys t x = step_then xs ys each.1 t x here in
    record { transfer = n.transfer; here = n.here; keeps = n.keeps }

-- ---- a command

behind : (xs ys : List Transfer) (t : ℕ) (x : Transfer) → slice_get xs t ≡ Some x → slice_get (xs ++ ys) t ≡ Some x
behind [] ys t x here = absurd (cc)
behind (v ∷ xs) ys zero x here = here
behind (v ∷ xs) ys (suc t) x here = behind xs ys t x here

below : (xs : List Transfer) (t : ℕ) (x : Transfer) → slice_get xs t ≡ Some x → t < length xs
below [] t x here = absurd (cc)
below (v ∷ xs) zero x here = omega arith
below (v ∷ xs) (suc t) x here = let low = below xs t x here in omega (arith, low)

pub accepted_there : (d : DriverContent) (m : Mem) (o : Offered) → Accepts d m o → (t : ℕ) (x : Transfer) → slice_get d.transfers t ≡ Some x
    → slice_get o.driver.transfers t ≡ Some x
accepted_there d m o (opens why) t x here = ap (λ (g : Offered). slice_get g.driver.transfers t) why.is ∙ here
accepted_there d m o (chains why) t x here = ap (λ (g : Offered). slice_get g.driver.transfers t) why.is ∙ here
accepted_there d m o (places why) t x here = ap (λ (g : Offered). slice_get g.driver.transfers t) why.is ∙ here
accepted_there d m o (transfers why) t x here =
    ap (λ (g : Offered). slice_get g.driver.transfers t) why.is ∙ push_there d.transfers _ t x here
accepted_there d m o (describes why) t x here =
    let a : Descriptors = record { notes = d.periodic.notes; transfers = d.transfers; memory = why.holding_after.memory } in
    let more = described_more why.holding_after.book why.number why.endpoint.desc why.slots why.count why.seed
    (new_runs d why.holding_after) a in
    ap (λ (g : Offered). slice_get g.driver.transfers t) why.is ∙ ap (λ (ts : List Transfer). slice_get ts t) more.is
    ∙ behind d.transfers more.more t x here
accepted_there d m o (cancels why) t x here = ap (λ (g : Offered). slice_get g.driver.transfers t) why.is ∙ here
accepted_there d m o (unchains why) t x here =
    let u = unchained d m o why in ap (λ (g : DriverContent). slice_get g.transfers t) u.is ∙ here

-- the descriptors that it has still to link are those of later transfers
abbrev pub IsOlder : Option Command → ℕ → Type 0
IsOlder o t = (e first count : ℕ) → o ≡ Some (unfinished.Iso e first count) → t < first

first_in : Option Command → ℕ
first_in (Some (unfinished.Iso e first count)) = first
first_in _ = 0

pub accepted_older : (d : DriverContent) (m : Mem) (o : Offered) → Accepts d m o → (t : ℕ) (x : Transfer) → slice_get d.transfers t ≡ Some x
    → IsOlder d.command t → IsOlder o.driver.command t
unfolding first_in
accepted_older d m o (opens why) t x here old e first count is =
    let now = ap (λ (g : Offered). g.driver.command) (sym why.is) ∙ is in absurd (cc)
accepted_older d m o (chains why) t x here old e first count is =
    let now = ap (λ (g : Offered). g.driver.command) (sym why.is) ∙ is in absurd (cc)
accepted_older d m o (places why) t x here old e first count is =
    old e first count (ap (λ (g : Offered). g.driver.command) (sym why.is) ∙ is)
accepted_older d m o (transfers why) t x here old e first count is =
    let now = ap (λ (g : Offered). g.driver.command) (sym why.is) ∙ is in absurd (cc)
accepted_older d m o (describes why) t x here old e first count is =
    let all : length d.transfers ≡ first = ap first_in (ap (λ (g : Offered). g.driver.command) (sym why.is) ∙ is) in
    let low = below d.transfers t x here in
    omega (arith, all, low)
accepted_older d m o (cancels why) t x here old e first count is =
    let now = ap (λ (g : Offered). g.driver.command) (sym why.is) ∙ is in absurd (cc)
accepted_older d m o (unchains why) t x here old e first count is =
    let u = unchained d m o why in
    let now : u.command ≡ Some (unfinished.Iso e first count) = ap (λ (g : DriverContent). g.command) (sym u.is) ∙ is in
    ⊎_elim (λ (some : u.command ≡ Some (unfinished.Unchain why.number)). let bad = sym some ∙ now in absurd (cc))
    (λ (none : u.command ≡ None). let bad = sym none ∙ now in absurd (cc)) u.which

linked_queue : (l : Periodic) (q : Queue) (k : Descriptor) → is_linked (linking l (Each q)).members.schedule (Once k) ≡ true
    → is_linked l.members.schedule (Once k) ≡ true
linked_queue l q k =
    either_if (λ (r : Periodic). is_linked r.members.schedule (Once k) ≡ true → is_linked l.members.schedule (Once k) ≡ true)
    (may_link l (Each q)) (inserting l (Each q)) l (λ e on. on) (λ e on. on)

pub accepted_stood : (d : DriverContent) (m : Mem) (o : Offered) → Accepts d m o → (k : Descriptor)
    → is_linked o.driver.periodic.list.members.schedule (Once k) ≡ true → is_linked d.periodic.list.members.schedule (Once k) ≡ true
accepted_stood d m o (opens why) k on =
    ap (λ (g : Offered). is_linked g.driver.periodic.list.members.schedule (Once k)) (sym why.is) ∙ on
accepted_stood d m o (chains why) k on =
    linked_queue d.periodic.list
    (record {
      id = queue_name (slice_index (new_runs d why.holding_after) 0);
      period = why.placement.period;
      phase = why.placement.phase;
    }) k
    (ap (λ (g : Offered). is_linked g.driver.periodic.list.members.schedule (Once k)) (sym why.is) ∙ on)
accepted_stood d m o (places why) k on =
    ap (λ (g : Offered). is_linked g.driver.periodic.list.members.schedule (Once k)) (sym why.is) ∙ on
accepted_stood d m o (transfers why) k on =
    ap (λ (g : Offered). is_linked g.driver.periodic.list.members.schedule (Once k)) (sym why.is) ∙ on
accepted_stood d m o (describes why) k on =
    ap (λ (g : Offered). is_linked g.driver.periodic.list.members.schedule (Once k)) (sym why.is) ∙ on
accepted_stood d m o (cancels why) k on =
    ap (λ (g : Offered). is_linked g.driver.periodic.list.members.schedule (Once k)) (sym why.is) ∙ on
accepted_stood d m o (unchains why) k on =
    let ms : List Member = endpoint_members d why.number why.endpoint why.placement in
    ap (λ (s : Members). is_linked s.schedule (Once k)) (sym (next_members (record d.periodic { queued = ms })))
    ∙ ap (λ (l : Periodic). is_linked l.members.schedule (Once k))
    (sym (ended_list (with_cancel d why.number why.endpoint ms) (unfinished.Unchain why.number)))
    ∙ ap (λ (g : Offered). is_linked g.driver.periodic.list.members.schedule (Once k)) (sym why.is) ∙ on
