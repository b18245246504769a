-- The store that unlinks a harvested descriptor, beside both walks.
use Rattle.std.proofs.Common.{◌≡◌, ℕ, ◌+◌, ◌*◌, ◌/◌, ◌<◌, Bool, true, false, List, length, Option, Some, None, if◌then◌else◌, ap, refl, sym, subst, ◌∙◌, arith}
use Rattle.std.specs.Prelude.{is_none, not, ◌&&◌, nat_lt, option_map}
use Rattle.word_mem.specs.Memory.{Mem, word_at, with_word}
use Rattle.mem_runs.specs.Book.{store}
use Rattle.drv_chains.specs.declared.members.Descriptor.{Descriptor}
use Rattle.drv_chains.specs.declared.members.Member.{Member}
use Rattle.drv_chains.specs.declared.members.Member.TheVariants.{Once}
use Rattle.drv_chains.specs.declared.members.Predecessor.{Predecessor}
use Rattle.drv_chains.specs.Chains.{Schedule}
use Rattle.drv_members.specs.Members.{IsKept, is_member, is_linked}
use Rattle.drv_members.proofs.Keeping.{descriptor_at}
use Rattle.claims_driver.specs.FrameWords.{StandFor}
use Rattle.law_frame_words.proofs.lemmas.frame_words.Order.{remove_in_order}
use Rattle.drv_periodic.specs.declared.work.Work.{Work}
use Rattle.drv_periodic.specs.declared.work.Store.{Store}
use Rattle.drv_periodic.specs.Periodic.{Periodic, begun, value_of, store_at, is_more, next_store, removing, after_store}
use Rattle.drv_periodic.proofs.Words.{descriptor_words}
use Rattle.drv_periodic_table.specs.declared.content.DescriptorNote.{DescriptorNote}
use Rattle.drv_periodic_table.specs.Periodic.{note_at, descriptor_name}
use Rattle.drv_periodic_table.specs.Linking.{unlinking}
use Rattle.drv_table.specs.declared.content.Transfer.{Transfer}
use Rattle.drv_table.specs.declared.rows.DriverRow.TheVariants as rows
use Rattle.drv_table.specs.DriverContent.{DriverContent}
use Rattle.drv_table.specs.Parts.{Parts}
use Rattle.drv_table.specs.Removals.{after_unlink, stored_link, descriptor_leaving}
use Rattle.claims_driver.specs.Leaving.{HasOwners}
use Rattle.law_driver.proofs.lemmas.run_owners.Rows.{due_owned, due_orderly}
use Rattle.law_driver.specs.listed_members.Members.{IsUnderWay, IsListed}
use Rattle.law_driver.proofs.lemmas.listed_members.Events.{row_listed}
use Rattle.law_driver.proofs.lemmas.listed_members.Unlinks.{below_frames}
use Rattle.law_frame_list.proofs.lemmas.list_spread.Spreading.{members_share_no_block}
use Rattle.law_frame_list.proofs.lemmas.list_stores.Making.{store_written}
use Rattle.law_frame_list.proofs.lemmas.list_rows.Unlinked.{named_of, StandsAfter, first_word, unlinked_linked, removed_stands}
use Rattle.hc_core.specs.Controller.{Content}
use Rattle.law_frames.specs.Met.{Kind}
use Rattle.law_descriptors.specs.Meeting.{kind_of_descriptor}
use Rattle.claims_driver.specs.Unlinked.{led_in}
use Rattle.law_descriptors.specs.Recent.{parts_of}
use Rattle.law_descriptors.specs.Staying.{also}
use Rattle.law_descriptors.specs.ListRows.{leaves_by, leaves_now, recent_with, ComesFirst, ListStored, StoresNext, UnlinkRowsLeaveBoth}
use Rattle.law_descriptors.proofs.ListRowsStoring.{next_store_leaves_both}
use Rattle.law_descriptors.proofs.ListRows.{idle_led}

-- ---- it is the last that unlinks it

one_word : (s : Schedule) (k : Descriptor) → IsKept s → k.frame < 1024 → is_linked s (Once k) ≡ true → is_more s (begun (Once k) true) ≡ false
one_word s k kept small on = ap (λ (ws : List Predecessor). nat_lt 1 (length ws)) (descriptor_words s k small (descriptor_at s k kept on))

leaves_one : (s : Schedule) (k : Descriptor) → IsKept s → k.frame < 1024 → is_linked s (Once k) ≡ true → leaves_by s (Some (begun (Once k) true)) ≡ Some (Once k)
leaves_one s k kept small on = ap (λ (b : Bool). if not b then Some (Once k) else None) (one_word s k kept small on)

pub name_block : (note : DescriptorNote) (b : ℕ) → descriptor_name note b / 32 ≡ b
name_block note b = by note.split
  where
    by : (split : Bool) → (if split then 32 * b + 4 else 32 * b) / 32 ≡ b
    by true = omega arith
    by false = omega arith

recent_then : (d : DriverContent) (y : Transfer) (recent : ℕ → Option Kind)
    → recent_with d.periodic (Some (Once (named_of d y))) recent ≡ also (32 * y.first) (kind_of_descriptor (note_at d.periodic.notes y.first).split) recent
unfolding named_of
recent_then d y recent =
    ap (λ (b : ℕ). also (32 * b) (kind_of_descriptor (note_at d.periodic.notes b).split) recent) (name_block (note_at d.periodic.notes y.first) y.first)

-- ---- the row

-- the parts after it
abbrev unlinked_in : Content → DriverContent → ℕ → Transfer → Parts
unlinked_in c d t y = after_unlink (parts_of c d) t (Some y)

-- the list with the unlinking begun
leaving_is : (l : Periodic) (k : Descriptor) → l.work ≡ None → k.frame < 1024 → is_linked l.members.schedule (Once k) ≡ true → unlinking l (Once k) ≡ removing l (Once k)
leaving_is l k none small on =
    ap (λ (b : Bool). if b then removing l (Once k) else l)
    (ap (λ (o : Option Work). is_none o && (is_member (Once k) && is_linked l.members.schedule (Once k))) none ∙ ap (λ b. b && is_linked l.members.schedule (Once k)) (below_frames k.frame small) ∙ on)

pub unlink_rows_leave_both : UnlinkRowsLeaveBoth
unfolding named_of
unlink_rows_leave_both base member recent parts hand frame c d t y runs is frames apart stands shape has due there =
    let p : Parts = parts_of c d in
    let k : Descriptor = named_of d y in
    let l : Periodic = d.periodic.list in
    let q : Periodic = removing l (Once k) in
    let w : Work = begun (Once k) true in
    let s : Schedule = l.members.schedule in
    let none : l.work ≡ None = (subst (IsUnderWay d) due.idle frames.listed.way).work in
    let small : k.frame < 1024 = frames.listed.list.frames y.first in
    let on : is_linked s (Once k) ≡ true = unlinked_linked d t y has frames.listed there due.first in
    let leaving : descriptor_leaving d y ≡ q = leaving_is l k none small on in
    let f = first_word s k frames.list.order.kept small on in
    let st : Store = store_at l.list f.0 (value_of s w) in
    let next : next_store q ≡ Some st = ap (option_map (λ (v : Predecessor). store_at l.list v (value_of s w))) f.1 in
    let next_leaving : next_store (descriptor_leaving d y) ≡ Some st = ap next_store leaving ∙ next in
    let written : store d.book c.memory st.block st.at st.value ≡ with_word c.memory st.at st.value
    = store_written d c.memory (Some w) st stands shape has frames.listed frames.list.order.kept next in
    let memory : stored_link d.book c.memory (next_store (descriptor_leaving d y)) ≡ with_word c.memory st.at st.value = ap (stored_link d.book c.memory) next_leaving ∙ written in
    let after : StandsAfter d c.memory (descriptor_leaving d y) (next_store (descriptor_leaving d y)) = removed_stands d c.memory k stands shape has frames.listed frames.list none small on in
    let new : DriverContent = (unlinked_in c d t y).driver in
    let listed : IsListed new = subst (λ (o : Option Transfer). IsListed (after_unlink p t o).driver) there (row_listed (rows.Unlink t) p due has frames.listed) in
    let owners : HasOwners new
    = subst (λ (o : Option Transfer). HasOwners (after_unlink p t o).driver) there
    (record { owner = has.owner; owned = due_owned (rows.Unlink t) p has.owner due has.orderly has.owned; orderly = due_orderly (rows.Unlink t) p due has.orderly }) in
    let zero_then : new.periodic.list.list ≡ 0 = listed.list.list in
    let nexts : StoresNext c.memory d new q st
    = record {
      list = refl;
      members = refl;
      order = remove_in_order l (Once k) frames.list.order small on;
      before = sym (idle_led l none);
      after = ap (λ (x : Periodic). led_in (after_store x)) leaving;
      next = next;
      start = zero_then ∙ sym frames.listed.list.list;
      notes = refl;
      frames = frames;
      frames_after = record {
        list = record { order = after.0; words = subst (λ (m : Mem). StandFor (after_store (descriptor_leaving d y)) (word_at m)) memory after.1 };
        spread = members_share_no_block new c.memory stands owners listed;
        listed = listed;
      };
    } in
    let comes : ComesFirst member recent parts d q = λ v under links. absurd (none_comes v (Some w) under refl links) in
    let later : recent_with d.periodic (leaves_now q) recent ≡ also (32 * y.first) (kind_of_descriptor (note_at d.periodic.notes y.first).split) recent
    = ap (λ (o : Option Member). recent_with d.periodic o recent) (leaves_one s k frames.list.order.kept small on) ∙ recent_then d y recent in
    record {
      store = st;
      next = next_leaving;
      stored = subst (λ (o : Option Transfer). ListStored base member (also (32 * y.first) (kind_of_descriptor (note_at d.periodic.notes y.first).split) recent) parts hand frame st (after_unlink p t o).driver
          (record c { registers = (after_unlink p t o).registers; memory = (after_unlink p t o).memory })) (sym there)
          (subst (λ (r : ℕ → Option Kind). ListStored base member r parts hand frame st new (record c { memory = stored_link d.book c.memory (next_store (descriptor_leaving d y)) })) later
          (subst (λ (m : Mem). ListStored base member (recent_with d.periodic (leaves_now q) recent) parts hand frame st new (record c { memory = m })) (sym memory)
          (next_store_leaves_both base member recent parts hand frame c d new q st runs is nexts apart comes)));
    }
  where
    none_comes : (v : Work) (o : Option Work) → o ≡ Some v → (o ≡ Some (begun (Once (named_of d y)) true)) → v.removes ≡ false → ⊥
    none_comes v o one two links = let e : true ≡ false = removing_is v one two ∙ links in cc
      where
        removing_is : (v : Work) → o ≡ Some v → o ≡ Some (begun (Once (named_of d y)) true) → true ≡ v.removes
        removing_is v one two = cc
