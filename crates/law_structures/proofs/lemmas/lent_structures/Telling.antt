-- Memory that is told by its structures, and what changes leave of it.
use Rattle.std.proofs.Common.{◌≡◌, ◌≢◌, ℕ, ◌/◌, ◌⊎◌, List, length, slice_get, slice_index, Some, ap, sym, subst, ◌∙◌, ⊎_elim, inl, inr}
use Rattle.std.proofs.lemmas.Bool.{cases_eq}
use Rattle.std.proofs.lemmas.Option.{same_Some}
use Rattle.word_mem.specs.Memory.{Mem, IsShaped, state_at}
use Rattle.word_mem.specs.declared.blocks.BlockState.{BlockState}
use Rattle.word_mem.specs.declared.blocks.BlockState.TheVariants.{Lent}
use Rattle.word_mem.proofs.Frames.{shaped_same}
use Rattle.law_structures.specs.lent_structures.Structures.{Structure, StructureSets, put, without, Holds, Has, Tells}
use Rattle.law_structures.specs.lent_structures.Changes.{Changes, Stays, Leaves, IsNew}
use Rattle.law_structures.proofs.lemmas.lent_structures.Names.{put_found, put_same, without_found}
use Rattle.law_structures.proofs.lemmas.lent_structures.Standing.{holds_lent, holds_still, reaches_if}

-- a structure's blocks are Lent
pub told_lent : (m : Mem) (parts : StructureSets) (n a : ℕ) (s : Structure) (b : ℕ) → Tells m parts → parts n a ≡ Some s → Has a s b → state_at m b ≡ Some Lent
told_lent m parts n a s b t here has = holds_lent m a s b (t.each n a s here) has

-- ---- everything stays

stays_left : (m after : Mem) (a : ℕ) (s : Structure) → Leaves m after → Holds m a s → Stays m after a s
stays_left m after a s left h = record {
  lent = λ b has lent. left.lent b lent;
  words = λ other has. left.words other (reaches_if m other (holds_lent m a s (other / 32) h has));
}

-- the blocks of every structure stay
pub told_stays : (m after : Mem) (parts : StructureSets) → IsShaped after → ((n a : ℕ) (s : Structure) → parts n a ≡ Some s → Stays m after a s) → Tells m parts → Tells after parts
told_stays m after parts shape stays t = record {
  shape = shape;
  each = λ n a s here. holds_still m after a s (stays n a s here) (t.each n a s here);
  alone = t.alone;
}

pub rest_is_told : (m after : Mem) (parts : StructureSets) → Leaves m after → Tells m parts → Tells after parts
rest_is_told m after parts left t = told_stays m after parts left.shape (λ n a s here. stays_left m after a s left (t.each n a s here)) t

-- where words and states are as before
pub leaves_same : (m after : Mem) (parts : StructureSets) → after.words ≡ m.words → after.states ≡ m.states → Tells m parts → Leaves m after
leaves_same m after parts words states t = record {
  shape = shaped_same m after (ap length words) states t.shape;
  lent = λ b lent. ap (λ (ss : List BlockState). slice_get ss b) states ∙ lent;
  words = λ other reached. ap (λ (ws : List ℕ). slice_index ws (other / 4)) words;
}

-- ---- one structure changes in its place

-- the blocks of the others stay
beside : (m after : Mem) (parts : StructureSets) (n a : ℕ) (s : Structure) (k c : ℕ) (u : Structure) → Tells m parts → parts n a ≡ Some s → Changes m after a s → parts k c ≡ Some u → (((k ≡ n) × (c ≡ a)) → ⊥) → Stays m after c u
beside m after parts n a s k c u t here change there other = record {
  lent = λ b has lent. ap (λ (ss : List BlockState). slice_get ss b) change.states ∙ lent;
  words = λ at has. change.outside at (λ inside. other (t.alone n a k c s u (at / 32) here there inside has));
}

-- one name of one owner, or another
pub same_place : (k c n a : ℕ) → ((k ≡ n) × (c ≡ a)) ⊎ (((k ≡ n) × (c ≡ a)) → ⊥)
same_place k c n a =
    ⊎_elim (λ (owner : k ≡ n).
    ⊎_elim (λ (name : c ≡ a). inl (owner, name)) (λ (differs : c ≢ a). inr (λ (is : (k ≡ n) × (c ≡ a)). differs is.1)) (cases_eq c a))
    (λ (differs : k ≢ n). inr (λ (is : (k ≡ n) × (c ≡ a)). differs is.0)) (cases_eq k n)

one_changed : (m after : Mem) (parts : StructureSets) (n a : ℕ) (s new : Structure) → Tells m parts → parts n a ≡ Some s → Changes m after a s → Holds after a new → (k c : ℕ) (u : Structure) → put parts n a new k c ≡ Some u → Holds after c u
one_changed m after parts n a s new t here change holds k c u found =
    ⊎_elim (λ (is : (k ≡ n) × (c ≡ a)).
    let same : u ≡ new = same_Some u new (sym found ∙ ap (λ (i : ℕ). put parts n a new i c) is.0 ∙ ap (put parts n a new n) is.1 ∙ put_same parts n a new) in
    subst (λ (v : Structure). Holds after c v) (sym same) (subst (λ (i : ℕ). Holds after i new) (sym is.1) holds))
    (λ (other : ((k ≡ n) × (c ≡ a)) → ⊥).
    let there : parts k c ≡ Some u = ⊎_elim (λ (is : (k ≡ n) × (c ≡ a) × (u ≡ new)). absurd (other (is.0, is.1))) (λ (there : parts k c ≡ Some u). there) (put_found parts n a new k c u found) in
    holds_still m after c u (beside m after parts n a s k c u t here change there other) (t.each k c u there))
    (same_place k c n a)

-- a block of what was put is one of what was there
old_block : (parts : StructureSets) (n a : ℕ) (s new : Structure) (k c : ℕ) (u : Structure) (b : ℕ) → parts n a ≡ Some s → ((d : ℕ) → Has a new d → Has a s d) → put parts n a new k c ≡ Some u → Has c u b → (v : Structure) × (parts k c ≡ Some v) × Has c v b
old_block parts n a s new k c u b here fewer found has =
    ⊎_elim (λ (is : (k ≡ n) × (c ≡ a) × (u ≡ new)).
    (s, ap (λ (i : ℕ). parts i c) is.0 ∙ ap (parts n) is.1 ∙ here, subst (λ (i : ℕ). Has i s b) (sym is.1) (fewer b (subst (λ (i : ℕ). Has i new b) is.1 (subst (λ (v : Structure). Has c v b) is.2 has)))))
    (λ (there : parts k c ≡ Some u). (u, there, has)) (put_found parts n a new k c u found)

pub change_is_told : (m after : Mem) (parts : StructureSets) (n a : ℕ) (s new : Structure) → Tells m parts → parts n a ≡ Some s → Changes m after a s → ((b : ℕ) → Has a new b → Has a s b) → Holds after a new → Tells after (put parts n a new)
change_is_told m after parts n a s new t here change fewer holds = record {
  shape = shaped_same m after change.size change.states t.shape;
  each = one_changed m after parts n a s new t here change holds;
  alone = λ k c j d u v b one other has also.
      let first = old_block parts n a s new k c u b here fewer one has in
      let second = old_block parts n a s new j d v b here fewer other also in
      t.alone k c j d first.0 second.0 b first.1 second.1 first.2 second.2;
}

-- ---- structures are new_is_told and taken away

-- Any other parts of which each structure was told, or is new, where no two new ones share a block.
pub retold : (m after : Mem) (parts new : StructureSets) → Tells m parts → Leaves m after
    → ((n a : ℕ) (s : Structure) → new n a ≡ Some s → (parts n a ≡ Some s) ⊎ IsNew m after a s)
    → ((n a k c : ℕ) (s u : Structure) (b : ℕ) → new n a ≡ Some s → new k c ≡ Some u → IsNew m after a s → IsNew m after c u → Has a s b → Has c u b → (k ≡ n) × (c ≡ a))
    → Tells after new
retold m after parts new t left old_or_new apart = record {
  shape = left.shape;
  each = λ n a s here.
      ⊎_elim (λ (old : parts n a ≡ Some s). holds_still m after a s (stays_left m after a s left (t.each n a s old)) (t.each n a s old))
      (λ (fresh : IsNew m after a s). fresh.holds) (old_or_new n a s here);
  alone = λ n a k c s u b one other has also.
      ⊎_elim (λ (old : parts n a ≡ Some s).
      ⊎_elim (λ (also_old : parts k c ≡ Some u). t.alone n a k c s u b old also_old has also)
      (λ (fresh : IsNew m after c u). absurd (fresh.fresh b also (told_lent m parts n a s b t old has))) (old_or_new k c u other))
      (λ (fresh : IsNew m after a s).
      ⊎_elim (λ (also_old : parts k c ≡ Some u). absurd (fresh.fresh b has (told_lent m parts k c u b t also_old also)))
      (λ (also_fresh : IsNew m after c u). apart n a k c s u b one other fresh also_fresh has also) (old_or_new k c u other))
      (old_or_new n a s one);
}

-- what is new of a part with one structure more is that structure
only_new : (m after : Mem) (parts : StructureSets) (n a : ℕ) (s : Structure) (k c : ℕ) (u : Structure) (b : ℕ) → Tells m parts → ((k ≡ n) × (c ≡ a) × (u ≡ s)) ⊎ (parts k c ≡ Some u) → IsNew m after c u → Has c u b → (k ≡ n) × (c ≡ a)
only_new m after parts n a s k c u b t (inl is) fresh has = (is.0, is.1)
only_new m after parts n a s k c u b t (inr there) fresh has = absurd (fresh.fresh b has (told_lent m parts k c u b t there has))

-- one structure is new, as after a lend of its blocks
pub new_is_told : (m after : Mem) (parts : StructureSets) (n a : ℕ) (s : Structure) → Tells m parts → Leaves m after → IsNew m after a s → Tells after (put parts n a s)
new_is_told m after parts n a s t left fresh =
    retold m after parts (put parts n a s) t left
    (λ k c u found. ⊎_elim (λ (is : (k ≡ n) × (c ≡ a) × (u ≡ s)). inr (subst (λ (v : Structure). IsNew m after c v) (sym is.2) (subst (λ (i : ℕ). IsNew m after i s) (sym is.1) fresh)))
    (λ (there : parts k c ≡ Some u). inl there) (put_found parts n a s k c u found))
    (λ k c j d u v b one other also_new new has also.
    let first = only_new m after parts n a s k c u b t (put_found parts n a s k c u one) also_new has in
    let second = only_new m after parts n a s j d v b t (put_found parts n a s j d v other) new also in
    (second.0 ∙ sym first.0, second.1 ∙ sym first.1))

-- what an new_is_told structure shares no block with stays apart from it
found_apart : (parts : StructureSets) (n a : ℕ) (s : Structure) (k c j d : ℕ) (u v : Structure) (b : ℕ) (m : Mem) → Tells m parts
    → ((b k c : ℕ) (u : Structure) → Has a s b → parts k c ≡ Some u → Has c u b → ⊥)
    → ((k ≡ n) × (c ≡ a) × (u ≡ s)) ⊎ (parts k c ≡ Some u) → ((j ≡ n) × (d ≡ a) × (v ≡ s)) ⊎ (parts j d ≡ Some v) → Has c u b → Has d v b → (j ≡ k) × (d ≡ c)
found_apart parts n a s k c j d u v b m t apart (inl one) (inl other) has also = (other.0 ∙ sym one.0, other.1 ∙ sym one.1)
found_apart parts n a s k c j d u v b m t apart (inl one) (inr there) has also =
    absurd (apart b j d v (subst (λ (i : ℕ). Has i s b) one.1 (subst (λ (w : Structure). Has c w b) one.2 has)) there also)
found_apart parts n a s k c j d u v b m t apart (inr there) (inl other) has also =
    absurd (apart b k c u (subst (λ (i : ℕ). Has i s b) other.1 (subst (λ (w : Structure). Has d w b) other.2 also)) there has)
found_apart parts n a s k c j d u v b m t apart (inr there) (inr also_there) has also = t.alone k c j d u v b there also_there has also

-- a structure that stands beside all that are told is told too
pub another_is_told : (m : Mem) (parts : StructureSets) (n a : ℕ) (s : Structure) → Tells m parts → Holds m a s → ((b k c : ℕ) (u : Structure) → Has a s b → parts k c ≡ Some u → Has c u b → ⊥) → Tells m (put parts n a s)
another_is_told m parts n a s t holds apart = record {
  shape = t.shape;
  each = λ k c u found.
      ⊎_elim (λ (is : (k ≡ n) × (c ≡ a) × (u ≡ s)). subst (λ (v : Structure). Holds m c v) (sym is.2) (subst (λ (i : ℕ). Holds m i s) (sym is.1) holds))
      (λ (there : parts k c ≡ Some u). t.each k c u there) (put_found parts n a s k c u found);
  alone = λ k c j d u v b one other has also.
      found_apart parts n a s k c j d u v b m t apart (put_found parts n a s k c u one) (put_found parts n a s j d v other) has also;
}

-- a structure is told no more: its blocks may be got back
pub fewer_are_told : (m : Mem) (parts : StructureSets) (n a : ℕ) → Tells m parts → Tells m (without parts n a)
fewer_are_told m parts n a t = record {
  shape = t.shape;
  each = λ k c u found. t.each k c u (without_found parts n a k c u found);
  alone = λ k c j d u v b one other has also. t.alone k c j d u v b (without_found parts n a k c u one) (without_found parts n a j d v other) has also;
}
