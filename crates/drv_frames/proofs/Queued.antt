-- The members of a command, one more.
use Rattle.std.proofs.Common.{◌≡◌, ℕ, ◌+◌, ◌<◌, ◌≤◌, Bool, true, false, cond, List, [], ◌∷◌, ◌++◌, length, map, filter, get_or, drop, ap, sym, ◌∙◌, refl, append-nil, append_assoc}
use Rattle.std.proofs.lemmas.List.{drop_all}
use Rattle.drv_chains.specs.declared.members.Member.{Member}
use Rattle.drv_periodic_table.specs.declared.content.DescriptorNote.{DescriptorNote}
use Rattle.drv_periodic_table.specs.Periodic.{descriptor_member}
use Rattle.drv_table.specs.declared.content.Transfer.{Transfer}
use Rattle.drv_table.specs.DriverContent.{waits_for}
use Rattle.drv_frames.proofs.Freed.{drop_one}

joined : (xs : List Member) (m : Member) (ys : List Member) → (xs ++ m ∷ []) ++ ys ≡ xs ++ m ∷ ys
joined xs m ys = append_assoc xs (m ∷ []) ys

pub members_more : (notes : List DescriptorNote) (sofar : List Member) (ts : List Transfer) (i : ℕ) (d : Transfer) → i < length ts → (sofar ++ descriptor_member notes (get_or ts i d).first ∷ []) ++ map (λ (t : Transfer). descriptor_member notes t.first) (drop (i + 1) ts) ≡ sofar ++ map (λ (t : Transfer). descriptor_member notes t.first) (drop i ts)
members_more notes sofar ts i d below =
    joined sofar (descriptor_member notes (get_or ts i d).first) (map (λ (t : Transfer). descriptor_member notes t.first) (drop (i + 1) ts))
    ∙ ap (λ xs. sofar ++ map (λ (t : Transfer). descriptor_member notes t.first) xs) (sym (drop_one ts i d below))

pub members_none : (notes : List DescriptorNote) (sofar : List Member) (ts : List Transfer) (i : ℕ) → length ts ≤ i → sofar ++ map (λ (t : Transfer). descriptor_member notes t.first) (drop i ts) ≡ sofar
members_none notes sofar ts i past = ap (λ xs. sofar ++ map (λ (t : Transfer). descriptor_member notes t.first) xs) (drop_all i ts past) ∙ append-nil sofar

one_of : (notes : List DescriptorNote) (e : ℕ) (sofar : List Member) (x : Transfer) (xs : List Transfer) (b : Bool) → waits_for e x ≡ b → cond b (sofar ++ descriptor_member notes x.first ∷ []) sofar ++ map (λ (t : Transfer). descriptor_member notes t.first) (filter (waits_for e) xs) ≡ sofar ++ map (λ (t : Transfer). descriptor_member notes t.first) (filter (waits_for e) (x ∷ xs))
one_of notes e sofar x xs true on =
    joined sofar (descriptor_member notes x.first) (map (λ (t : Transfer). descriptor_member notes t.first) (filter (waits_for e) xs))
    ∙ ap (λ b. sofar ++ map (λ (t : Transfer). descriptor_member notes t.first) (cond b (x ∷ filter (waits_for e) xs) (filter (waits_for e) xs))) (sym on)
one_of notes e sofar x xs false off =
    ap (λ b. sofar ++ map (λ (t : Transfer). descriptor_member notes t.first) (cond b (x ∷ filter (waits_for e) xs) (filter (waits_for e) xs))) (sym off)

pub waiting_more : (notes : List DescriptorNote) (e : ℕ) (sofar : List Member) (ts : List Transfer) (i : ℕ) (d : Transfer) → i < length ts → cond (waits_for e (get_or ts i d)) (sofar ++ descriptor_member notes (get_or ts i d).first ∷ []) sofar ++ map (λ (t : Transfer). descriptor_member notes t.first) (filter (waits_for e) (drop (i + 1) ts)) ≡ sofar ++ map (λ (t : Transfer). descriptor_member notes t.first) (filter (waits_for e) (drop i ts))
waiting_more notes e sofar ts i d below =
    one_of notes e sofar (get_or ts i d) (drop (i + 1) ts) (waits_for e (get_or ts i d)) refl
    ∙ ap (λ xs. sofar ++ map (λ (t : Transfer). descriptor_member notes t.first) (filter (waits_for e) xs)) (sym (drop_one ts i d below))

pub waiting_none : (notes : List DescriptorNote) (e : ℕ) (sofar : List Member) (ts : List Transfer) (i : ℕ) → length ts ≤ i → sofar ++ map (λ (t : Transfer). descriptor_member notes t.first) (filter (waits_for e) (drop i ts)) ≡ sofar
waiting_none notes e sofar ts i past = ap (λ xs. sofar ++ map (λ (t : Transfer). descriptor_member notes t.first) (filter (waits_for e) xs)) (drop_all i ts past) ∙ append-nil sofar
