-- Where a command links members, the one that it links next leads on once its next store was made.
use Rattle.std.proofs.Common.{◌≡◌, ◌≢◌, ℕ, ◌*◌, ◌/◌, true, false, List, [], ◌∷◌, Some, ap, sym, subst, ◌∙◌}
use Rattle.std.specs.List.{AllByRecursion}
use Rattle.std.proofs.lemmas.Bool.{false≢true}
use Rattle.law_frame_list.proofs.Common.{none_queued}
use Rattle.word_mem.specs.Memory.{Mem, word_at}
use Rattle.mem_runs.specs.Book.{holding, store}
use Rattle.drv_chains.specs.declared.members.Member.{Member}
use Rattle.drv_chains.specs.Chains.{id_of, chain, first_of}
use Rattle.drv_members.specs.Members.{Members, frame_of}
use Rattle.drv_periodic.specs.declared.work.Store.{Store}
use Rattle.drv_periodic.specs.Periodic.{link_to, after_store}
use Rattle.drv_table.specs.declared.content.Command.{Command}
use Rattle.drv_table.specs.declared.content.Command.TheVariants as unfinished
use Rattle.drv_table.specs.DriverContent.{DriverContent}
use Rattle.drv_table.specs.Parts.{Parts}
use Rattle.drv_table.specs.Commands.{removes_members}
use Rattle.law_driver.specs.in_place.InPlace.{IsSound}
use Rattle.law_driver.proofs.lemmas.ring_members.Stores.{slots_apart, store_elsewhere}
use Rattle.law_driver.specs.listed_members.Members.{is_in_names, IsWaitingOf, IsDescribing, IsUnderWay}
use Rattle.law_driver.proofs.lemmas.listed_members.Stores.{linked_store}
use Rattle.claims_driver.specs.FrameWords.{ListStands}
use Rattle.law_frame_list.specs.list_driver.Keeping.{LeadsOn, AreLeading, KeepsItsList}
use Rattle.law_frame_list.specs.list_steps.Steps.{IsLinkingStep, NextLeads}
use Rattle.law_frame_list.proofs.lemmas.list_rows.Storing.{GoesInto, the_list, a_member, store_into}
use Rattle.law_frame_list.proofs.lemmas.list_queued.Leading.{AreOnces, leads_by}
use Rattle.law_frame_list.proofs.lemmas.list_queued.Apart.{member_apart, list_apart, way_of, are_onces, named_itself}
use Rattle.law_frame_list.proofs.lemmas.list_queued.Linked.{own_has}

-- ---- isochronous descriptors

into_apart : (d : DriverContent) (e first count : ℕ) (x : Member) (m : Mem) (b : ℕ) → d.command ≡ Some (unfinished.Iso e first count) → IsSound m d → IsWaitingOf d e first x → is_in_names (id_of x) d.periodic.queued ≡ true → GoesInto d.periodic.list.members.schedule b → id_of x / 32 ≢ b
into_apart d e first count x m b is sound w named (the_list at) same = list_apart d e first x sound.owners w (sym (same ∙ at))
into_apart d e first count x m b is sound w named (a_member y on at) same = member_apart d e first count x is sound.owners sound.listed w named y on (sym (same ∙ at))

stored_leads : (d : DriverContent) (e first count : ℕ) (m : Mem) (s : Store) (xs : List Member) → d.command ≡ Some (unfinished.Iso e first count) → IsSound m d → (after_store d.periodic.list).members ≡ d.periodic.list.members → GoesInto d.periodic.list.members.schedule s.block
    → AllByRecursion (IsWaitingOf d e first) xs → AllByRecursion (λ x. is_in_names (id_of x) d.periodic.queued ≡ true) xs → AllByRecursion (LeadsOn (word_at m) d.periodic.list) xs → AllByRecursion (LeadsOn (word_at (store d.book m s.block s.at s.value)) (after_store d.periodic.list)) xs
stored_leads d e first count m s [] is sound same into all named on = tt
stored_leads d e first count m s (x ∷ xs) is sound same into all named on = (
  store_elsewhere d.book m s.block (id_of x / 32) s.at s.value (id_of x / 32 * 32) (slots_apart (holding d.book m) sound.stands) (into_apart d e first count x m s.block is sound all.0 named.0 into) (own_has d m e first x sound all.0)
      ∙ on.0 ∙ ap (λ (ms : Members). link_to (first_of (chain ms.schedule (frame_of x)))) (sym same),
  stored_leads d e first count m s xs is sound same into all.1 named.1 on.1,
)

iso_leads : (p : Parts) (e first count : ℕ) → IsLinkingStep p (unfinished.Iso e first count) → IsSound p.memory p.driver → AreLeading p.memory p.driver → ListStands p.memory p.driver → NextLeads p
iso_leads p e first count step sound leading old s x xs next queued may =
    let d : DriverContent = p.driver in
    let way : IsDescribing d e first count = way_of d e first count step.unfinished sound.listed in
    let onces = subst (λ (ms : List Member). AreOnces ms) queued (are_onces d e first d.periodic.queued way.members) in
    let leads = stored_leads d e first count p.memory s d.periodic.queued step.unfinished sound (linked_store d.periodic.list way.links).members
    (store_into d p.memory s sound.stands sound.shape sound.owners sound.listed old.order.kept next) way.members (named_itself d.periodic.queued) (leading e first count step.unfinished step.late) in
    let on = subst (λ (ms : List Member). AllByRecursion (LeadsOn (word_at (store d.book p.memory s.block s.at s.value)) (after_store d.periodic.list)) ms) queued leads in
    leads_by (word_at (store d.book p.memory s.block s.at s.value)) (after_store d.periodic.list) x onces.0 on.0 may

-- ---- a queue head

queue_leads : (p : Parts) → IsLinkingStep p unfinished.Chain → IsSound p.memory p.driver → NextLeads p
queue_leads p step sound s x xs stored queued may =
    let way : IsUnderWay p.driver (Some unfinished.Chain) = subst (IsUnderWay p.driver) step.unfinished sound.listed.way in
    absurd (none_queued x xs (sym way.1 ∙ queued))

-- ---- any command

pub command_leads : (p : Parts) (c : Command) → IsLinkingStep p c → IsSound p.memory p.driver → KeepsItsList p.memory p.driver → removes_members c ≡ false → NextLeads p
command_leads p unfinished.Chain step sound old keeps = queue_leads p step sound
command_leads p (unfinished.Iso e first count) step sound old keeps = iso_leads p e first count step sound old.leading old.list
command_leads p (unfinished.Unchain e) step sound old keeps = absurd (false≢true (sym keeps))
command_leads p _ step sound old keeps = absurd (false≢true step.links)
