-- What a command unlinks is recent until the command is finished, and then what was removed last.
use Rattle.std.proofs.Common.{◌≡◌, ℕ, suc, ◌+◌, ◌*◌, ◌/◌, ◌≤◌, Bool, true, false, inl, inr, List, [], ◌∷◌, length, Option, Some, if◌then◌else◌, ⊎_elim, ap, refl, sym, subst, ◌∙◌, arith}
use Rattle.std.specs.Prelude.{◌==◌, is_none, not, ◌&&◌, nat_lt, slice_get}
use Rattle.std.proofs.lemmas.Bool.{true≢false, false≢true, and_from, eq-eqb}
use Rattle.std.proofs.lemmas.Option.{same_Some}
use Rattle.law_common.proofs.Numbers.{not_below}
use Rattle.law_descriptors.proofs.Common.{next_removals, chain_unchain, no_unchain}
use Rattle.law_common.proofs.Booleans.{either_if}
use Rattle.word_mem.specs.Memory.{Mem}
use Rattle.bandwidth.specs.declared.placements.Placement.{Placement}
use Rattle.drv_chains.specs.declared.members.Member.{Member}
use Rattle.drv_chains.specs.Chains.{id_of}
use Rattle.drv_periodic.specs.declared.work.Work.{Work}
use Rattle.drv_periodic.specs.Periodic.{after_store}
use Rattle.drv_periodic_table.specs.declared.content.Removal.{Removal}
use Rattle.drv_periodic_table.specs.declared.content.Removed.TheVariants as removed
use Rattle.drv_periodic_table.specs.Periodic.{note_at, queue_member}
use Rattle.drv_periodic_table.specs.Linking.{begun_next}
use Rattle.drv_table.specs.declared.content.Endpoint.{Endpoint}
use Rattle.drv_table.specs.declared.content.Transfer.{Transfer}
use Rattle.drv_table.specs.declared.content.Command.{Command}
use Rattle.drv_table.specs.declared.content.Command.TheVariants as unfinished
use Rattle.drv_table.specs.DriverContent.{DriverContent}
use Rattle.drv_table.specs.Commands.{removes_members, events_of, links, advance, advanced_by, or_finished, finished}
use Rattle.drv_table.specs.Kinds.{is_iso}
use Rattle.claims_driver.specs.FrameListMembers.{Framed}
use Rattle.law_driver.specs.listed_members.Members.{IsUnderWay, IsUnchaining, IsWaitingOf, AreLeaving, IsListed}
use Rattle.law_driver.proofs.lemmas.listed_members.Standing.{IsSeen, seen, IsFramed, framed}
use Rattle.law_frames.specs.Met.{Kind}
use Rattle.law_descriptors.specs.Removed.{IsRemovedAt, a_queue, a_waiting, IsRemovedSince, IsUnchainedNow}
use Rattle.law_descriptors.specs.Recent.{AreRecent}
use Rattle.law_descriptors.specs.ListRows.{leaves_now, recent_with, LeavesChained}
use Rattle.law_descriptors.proofs.Finding.{begins_at}
use Rattle.law_descriptors.proofs.RowStaying.{unchain_is_recent}
use Rattle.law_descriptors.proofs.ListUnlinks.{name_block}
use Rattle.law_descriptors.proofs.ListRowsStoring.{AtLeaver, then_recent}

-- ---- the one that leaves is the endpoint's

not_both : (a b : Bool) → not a && b ≡ true → not a ≡ true
not_both false b is = refl
not_both true b is = absurd (false≢true is)

waiting_left : (d : DriverContent) (e n : ℕ) (z : Endpoint) (m : Member) → slice_get d.endpoints e ≡ Some z → is_iso z.desc.kind ≡ true → n ≡ begins_at m → IsWaitingOf d e 0 m
    → IsRemovedAt d.endpoints d.transfers n (removed.Endpoint e)
waiting_left d e n z m here iso at k =
    let s : IsSeen d.endpoints d.transfers k.number k.placed = seen d.endpoints d.transfers k.number k.placed k.here in
    let y : Transfer = s.transfer in
    let name : id_of m / 32 ≡ y.first = ap (λ (x : Member). id_of x / 32) (sym k.is) ∙ name_block (note_at d.periodic.notes k.placed.block) k.placed.block ∙ s.block in
    let mine : y.endpoint ≡ e = sym s.endpoint ∙ k.endpoint in
    a_waiting e k.number z y here iso s.there s.sort
    (and_from (y.endpoint == e) (not y.reported) (eq-eqb y.endpoint e mine) (not_both y.reported _ (sym s.waits ∙ k.waits)))
    (at ∙ ap (λ (b : ℕ). 32 * b) name)

queue_left : (d : DriverContent) (e n : ℕ) (z : Endpoint) (place : Placement) (m : Member) → slice_get d.endpoints e ≡ Some z → is_iso z.desc.kind ≡ false → n ≡ begins_at m → m ≡ queue_member z.queue place
    → IsRemovedAt d.endpoints d.transfers n (removed.Endpoint e)
queue_left d e n z place m here iso at is = a_queue e z here iso (at ∙ ap begins_at is ∙ named z.queue)
  where
    named : (b : ℕ) → 32 * ((32 * b + 2) / 32) ≡ 32 * b
    named b = omega arith

first_of : {X : Type 0} (m : X) (ms : List X) (x : X) (xs : List X) → m ∷ ms ≡ x ∷ xs → m ≡ x
first_of m ms x xs is = cc

leaving_by : (d : DriverContent) (e n : ℕ) (x : Framed) (m : Member) (ms : List Member) (b : Bool) → IsFramed d.endpoints e x → n ≡ begins_at m → AreLeaving d e x (m ∷ ms) → x.isochronous ≡ b
    → IsRemovedAt d.endpoints d.transfers n (removed.Endpoint e)
leaving_by d e n x m ms true f at k iso =
    waiting_left d e n f.endpoint m f.here (ap (λ (y : Framed). y.isochronous) (sym f.is) ∙ iso) at (k.descriptors iso).0.0
leaving_by d e n x m ms false f at k iso =
    let q = k.queue iso in
    queue_left d e n f.endpoint q.0 m f.here (ap (λ (y : Framed). y.isochronous) (sym f.is) ∙ iso) at
    (first_of m ms (queue_member x.queue q.0) [] q.1.1 ∙ ap (λ (y : Framed). queue_member y.queue q.0) f.is)

unchaining_left : (m : Mem) (d new : DriverContent) (n e : ℕ) (kind : Kind) → d.command ≡ Some (unfinished.Unchain e) → IsUnchaining d e → AtLeaver m d new d.periodic.list n kind
    → IsUnchainedNow d.endpoints d.transfers d.command n
unchaining_left m d new n e kind command k at =
    let same : at.work ≡ k.work = same_Some at.work k.work (sym at.under_way ∙ k.begun) in
    record {
      endpoint = e;
      command = command;
      what = leaving_by d e n k.framed k.work.member d.periodic.queued k.framed.isochronous (framed d.endpoints e k.framed k.at) (at.begins ∙ ap (λ (w : Work). begins_at w.member) same) k.leaving refl;
    }

linking_leaves : {X : Type 0} (m : Mem) (d new : DriverContent) (n : ℕ) (kind : Kind) → ((w : Work) → d.periodic.list.work ≡ Some w → w.removes ≡ false) → AtLeaver m d new d.periodic.list n kind → X
linking_leaves m d new n kind links at = absurd (true≢false (sym at.removes ∙ links at.work at.under_way))

leaver_unchained : (m : Mem) (d new : DriverContent) (n : ℕ) (kind : Kind) (c : Command) → d.command ≡ Some c → links c ≡ true → IsUnderWay d (Some c) → AtLeaver m d new d.periodic.list n kind
    → IsUnchainedNow d.endpoints d.transfers d.command n
leaver_unchained m d new n kind unfinished.Chain is on way at = linking_leaves m d new n kind way.0 at
leaver_unchained m d new n kind (unfinished.Iso e t count) is on way at = linking_leaves m d new n kind way.links at
leaver_unchained m d new n kind (unfinished.Unchain e) is on way at = unchaining_left m d new n e kind is way at
leaver_unchained m d new n kind _ is on way at = absurd (false≢true on)

-- ---- the store was made

abbrev stored_on : DriverContent → Command → DriverContent
stored_on d c = record d { made = length (events_of c); periodic = begun_next (removes_members c) (record d.periodic { list = after_store d.periodic.list }) }

advanced_is : (d : DriverContent) (c : Command) → d.command ≡ Some c → links c ≡ true → length (events_of c) ≤ d.made → advance d ≡ or_finished (stored_on d c) c
advanced_is d c is on late =
    ap (λ (o : Option Command). advanced_by d o) is
    ∙ by (nat_lt (suc d.made) (length (events_of c))) (nat_lt d.made (length (events_of c))) (links c) (not_below (suc d.made) (length (events_of c)) (omega (arith, late)))
    (not_below d.made (length (events_of c)) late) on
  where
    by : (b t l : Bool) → b ≡ false → t ≡ false → l ≡ true
        → (if b then record d { made = suc d.made } else (if l then or_finished (record d { made = length (events_of c); periodic = begun_next (removes_members c) (record d.periodic { list = if t then d.periodic.list else after_store d.periodic.list }) }) c else finished d c))
        ≡ or_finished (stored_on d c) c
    by false false true one two three = refl
    by true t l one two three = absurd (true≢false one)
    by false true l one two three = absurd (true≢false two)
    by false false false one two three = absurd (false≢true three)

stored_recent : (m : Mem) (d : DriverContent) (recent : ℕ → Option Kind) (index : ℕ) (c : Command) → d.command ≡ Some c → links c ≡ true → IsListed d → AreRecent d index recent
    → AreRecent (stored_on d c) index (recent_with d.periodic (leaves_now d.periodic.list) recent)
stored_recent m d recent index c is on listed are n kind there =
    ⊎_elim (λ (before : recent n ≡ Some kind).
    ⊎_elim (λ (since : IsRemovedSince d.endpoints d.transfers d.periodic.removals index n).
    inl (subst (λ (rs : List Removal). IsRemovedSince d.endpoints d.transfers rs index n)
    (sym (next_removals (removes_members c) (record d.periodic { list = after_store d.periodic.list }))) since))
    (λ (now : IsUnchainedNow d.endpoints d.transfers d.command n). inr now) (are n kind before))
    (λ (at : AtLeaver m d d d.periodic.list n kind). inr (leaver_unchained m d d n kind c is on (subst (IsUnderWay d) is listed.way) at))
    (then_recent m d d d.periodic.list recent n kind there)

-- ---- the command is finished

iso_unchain : (o : Option Command) (f t count e : ℕ) → o ≡ Some (unfinished.Iso f t count) → o ≡ Some (unfinished.Unchain e) → ⊥
iso_unchain o f t count e one two = cc

ended_recent : (d : DriverContent) (later : ℕ → Option Kind) (index : ℕ) (c : Command) → d.command ≡ Some c → links c ≡ true → IsUnderWay d (Some c) → LeavesChained d → AreRecent (stored_on d c) index later
    → AreRecent (finished (stored_on d c) c) index later
ended_recent d later index unfinished.Chain is on way chained are = no_unchain (stored_on d unfinished.Chain) later index (λ e unchain. chain_unchain d.command e is unchain) are
ended_recent d later index (unfinished.Iso f t count) is on way chained are =
    no_unchain (stored_on d (unfinished.Iso f t count)) later index (λ e unchain. iso_unchain d.command f t count e is unchain) are
ended_recent d later index (unfinished.Unchain e) is on way chained are =
    unchain_is_recent (stored_on d (unfinished.Unchain e)) later index e way.endpoint is way.here (chained e way.endpoint is way.here) are
ended_recent d later index _ is on way chained are = absurd (false≢true on)

pub link_recent : (m : Mem) (d : DriverContent) (recent : ℕ → Option Kind) (index : ℕ) (c : Command) → d.command ≡ Some c → links c ≡ true → length (events_of c) ≤ d.made → IsListed d → LeavesChained d
    → AreRecent d index recent → AreRecent (advance d) index (recent_with d.periodic (leaves_now d.periodic.list) recent)
link_recent m d recent index c is on late listed chained are =
    let later : ℕ → Option Kind = recent_with d.periodic (leaves_now d.periodic.list) recent in
    let stored : AreRecent (stored_on d c) index later = stored_recent m d recent index c is on listed are in
    subst (λ (f : DriverContent). AreRecent f index later) (sym (advanced_is d c is on late))
    (either_if (λ (f : DriverContent). AreRecent f index later) (is_none (stored_on d c).periodic.list.work) (finished (stored_on d c) c) (stored_on d c)
    (λ e. ended_recent d later index c is on (subst (IsUnderWay d) is listed.way) chained stored) (λ e. stored))
