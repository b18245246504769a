-- What is held back, step by step.
use Rattle.std.proofs.Common.{◌≡◌, ◌≢◌, ℕ, suc, ◌+◌, ◌-◌, ◌*◌, List, [], ◌++◌, length, ap, refl, sym, subst, ◌∙◌, ⊎_elim, inl, inr}
use Rattle.std.proofs.lemmas.Bool.{cases_eq}
use Rattle.std.proofs.lemmas.List.{append_assoc, append-nil}
use Rattle.law_driver_ring.proofs.Common.{one_told}
use Rattle.law_structures.specs.lent_structures.Structures.{StructureSets}
use Rattle.law_ring.specs.Hand.{Hand}
use Rattle.law_ring.specs.Told.{Told}
use Rattle.drv_table.specs.declared.content.QtdNote.{QtdNote}
use Rattle.law_driver_ring.specs.told_harvests.Held.{IsDone, AreHeld, none_held, one_held, IsOneFrom, NotesMoved}

-- ---- one more is harvested

pub next_same : (note now : ℕ → QtdNote) (c k : ℕ) → NotesMoved note now c k → (b : ℕ) → (now b).next ≡ (note b).next
next_same note now c k noted b =
    ⊎_elim (λ (is : b ≡ c). ap (λ (i : ℕ). (now i).next) is ∙ ap (λ (z : QtdNote). z.next) noted.here ∙ ap (λ (i : ℕ). (note i).next) (sym is))
    (λ (differs : b ≢ c). ap (λ (z : QtdNote). z.next) (noted.beside b differs)) (cases_eq b c)

still_done : (hand : Hand) (parts : StructureSets) (n b c k : ℕ) (note now : ℕ → QtdNote) (x y : List ℕ) → IsDone hand parts n c k x → NotesMoved note now c k → IsDone hand parts n b (note b).moved y → IsDone hand parts n b (now b).moved y
still_done hand parts n b c k note now x y last noted d = record {
  qtd = d.qtd;
  here = d.here;
  off = d.off;
  told = d.told;
  count = ⊎_elim (λ (is : b ≡ c).
      ap length (one_told hand parts n (32 * c) y x (subst (λ (i : ℕ). Told hand parts n (32 * i) y) is d.told) last.told) ∙ last.count ∙ sym (ap (λ (i : ℕ). (now i).moved) is ∙ ap (λ (z : QtdNote). z.moved) noted.here))
      (λ (differs : b ≢ c). d.count ∙ ap (λ (z : QtdNote). z.moved) (sym (noted.beside b differs))) (cases_eq b c);
}

module _ (hand : Hand) (parts : StructureSets) (n : ℕ) (note now : ℕ → QtdNote) where
  pub held_more : (k b i c : ℕ) (xs x : List ℕ) → IsDone hand parts n c k x → NotesMoved note now c k → AreHeld hand parts n note b i c xs → AreHeld hand parts n now b (suc i) (note c).next (xs ++ x)
  held_more k b i c xs x done noted (none_held a) =
      subst (AreHeld hand parts n now a 1 (note a).next) (append-nil x)
      (one_held a 0 (note a).next x [] (record { qtd = done.qtd; here = done.here; off = done.off; told = done.told; count = done.count ∙ sym (ap (λ (z : QtdNote). z.moved) noted.here) })
      (subst (λ (j : ℕ). AreHeld hand parts n now (now a).next 0 j []) (next_same note now a k noted a) (none_held (now a).next)))
  held_more k b i c xs x done noted (one_held a j d y ys first rest) =
      subst (AreHeld hand parts n now a (suc (suc j)) (note d).next) (sym (append_assoc y ys x))
      (one_held a (suc j) (note d).next y (ys ++ x) (still_done hand parts n a d k note now x y done noted first)
      (subst (λ (u : ℕ). AreHeld hand parts n now u (suc j) (note d).next (ys ++ x)) (sym (next_same note now d k noted a)) (held_more k (note a).next j d ys x done noted rest)))

  -- ---- notes of others

  pub held_noted : (b i c : ℕ) (xs : List ℕ) → ((a : ℕ) → IsOneFrom note b i a → now a ≡ note a) → AreHeld hand parts n note b i c xs → AreHeld hand parts n now b i c xs
  held_noted b i c xs same (none_held a) = none_held a
  held_noted b i c xs same (one_held a j d y ys first rest) =
      let here : now a ≡ note a = same a (inl refl) in
      one_held a j d y ys (subst (λ (z : QtdNote). IsDone hand parts n a z.moved y) (sym here) first)
      (subst (λ (u : ℕ). AreHeld hand parts n now u j d ys) (ap (λ (z : QtdNote). z.next) (sym here)) (held_noted (note a).next j d ys (λ u among. same u (inr among)) rest))

-- ---- structures change

module _ (hand later : Hand) (parts now : StructureSets) (n : ℕ) (note : ℕ → QtdNote) where
  -- whatever leaves what is done, and what is told of it
  pub held_still : (b i c : ℕ) (xs : List ℕ) → ((a : ℕ) (x : List ℕ) → IsOneFrom note b i a → IsDone hand parts n a (note a).moved x → IsDone later now n a (note a).moved x) → AreHeld hand parts n note b i c xs → AreHeld later now n note b i c xs
  held_still b i c xs still (none_held a) = none_held a
  held_still b i c xs still (one_held a j d y ys first rest) = one_held a j d y ys (still a y (inl refl) first) (held_still (note a).next j d ys (λ u x among. still u x (inr among)) rest)
