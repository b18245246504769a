-- Which writes keep parts, and that keeping joins.
use Rattle.std.proofs.Common.{◌≡◌, ◌≢◌, ℕ, ◌<◌, true, List, length, Option, Some, option_map, ap, refl, sym, subst, ◌∙◌, ⊎_elim, arith}
use Rattle.std.proofs.lemmas.Bool.{cases_eq}
use Rattle.std.proofs.lemmas.Option.{same_Some}
use Rattle.qh_qtd.specs.declared.qtd.Qtd.{Qtd}
use Rattle.qh_qtd.specs.declared.queue_head.Qh.{Qh}
use Rattle.itd_sitd.specs.declared.slot.ItdSlot.{ItdSlot}
use Rattle.itd_sitd.specs.declared.itd.Itd.{Itd}
use Rattle.itd_sitd.specs.declared.sitd.Sitd.{Sitd}
use Rattle.itd_sitd.specs.Itd.{slot_of}
use Rattle.law_structures.specs.lent_structures.Structures.{Structure, QueueHead, Element, Buffer, Table, Isochronous, SplitIsochronous, Structures, StructureSets, with_structure, put}
use Rattle.law_structures.proofs.lemmas.lent_structures.Names.{names_differ, with_here, with_there, put_here, put_beside}
use Rattle.law_structures.specs.lent_structures.Alters.{IsAfter}
use Rattle.law_structures.proofs.lemmas.lent_structures.Altering.{is_itself}
use Rattle.law_driver_ring.specs.Inventory.{sort_of}
use Rattle.law_controller.specs.controlled_streams.Kept.{bare, Keeps}
use Rattle.law_controller.proofs.lemmas.controlled_streams.Keeping.{kept_part, kept_both, kept_head, kept_element, kept_buffer}
use Rattle.law_descriptors.specs.frame_keeps.Kept.{IsItdAfter, IsLeft, IsSitdAfter, HasItdAfter, HasSitdAfter, KeepsPart, KeepsParts}

-- ---- nothing changes

itd_itself : (v : Itd) → IsItdAfter v v
itd_itself v = record { same = refl; active = λ u on. refl }

sitd_itself : (v : Sitd) → IsSitdAfter v v
sitd_itself v = record { same = refl; left = λ on some. record { active = on; from = omega arith; within = omega arith } }

pub part_itself : (part : Structures) → KeepsPart part part
part_itself part = record {
  queues = kept_part part;
  itd = λ a v here. record { itd = v; here = here; after = itd_itself v };
  sitd = λ a v here. record { sitd = v; here = here; after = sitd_itself v };
  table = λ a ws here. here;
  sorts = λ a. refl;
}

-- ---- two changes

itd_both : (v w x : Itd) → IsItdAfter v w → IsItdAfter w x → IsItdAfter v x
itd_both v w x one two = record {
  same = two.same ∙ one.same;
  active = λ u on.
      let s : slot_of u x ≡ slot_of u w = two.active u on in
      s ∙ one.active u (ap (λ (t : ItdSlot). t.active) (sym s) ∙ on);
}

left_both : (v w x : Sitd) → IsSitdAfter v w → IsLeft w x → 0 < x.total → IsLeft v x
left_both v w x one second some =
    let a = second.from in
    let b = second.within in
    let first : IsLeft v w = one.left second.active (omega (arith, a, b, some)) in
    let c = first.from in
    let d = first.within in
    record { active = first.active; from = omega (arith, a, c); within = omega (arith, b, d) }

sitd_both : (v w x : Sitd) → IsSitdAfter v w → IsSitdAfter w x → IsSitdAfter v x
sitd_both v w x one two = record { same = two.same ∙ one.same; left = λ on some. left_both v w x one (two.left on some) some }

part_both : (part mid now : Structures) → KeepsPart part mid → KeepsPart mid now → KeepsPart part now
part_both part mid now one two = record {
  queues = kept_both part mid now one.queues two.queues;
  itd = λ a v here.
      let first : HasItdAfter mid a v = one.itd a v here in
      let second : HasItdAfter now a first.itd = two.itd a first.itd first.here in
      record { itd = second.itd; here = second.here; after = itd_both v first.itd second.itd first.after second.after };
  sitd = λ a v here.
      let first : HasSitdAfter mid a v = one.sitd a v here in
      let second : HasSitdAfter now a first.sitd = two.sitd a first.sitd first.here in
      record { sitd = second.sitd; here = second.here; after = sitd_both v first.sitd second.sitd first.after second.after };
  table = λ a ws here. two.table a ws (one.table a ws here);
  sorts = λ a. two.sorts a ∙ one.sorts a;
}

-- ---- a structure in the place of one of its kind: what stands beside it

-- where s stands at a, a structure that differs from s is elsewhere, and stays
beside : (part : Structures) (a : ℕ) (s new : Structure) (b : ℕ) (t : Structure) → part a ≡ Some s → t ≢ s → part b ≡ Some t → with_structure part a new b ≡ Some t
beside part a s new b t at differs here = with_there part a new b (names_differ part b a t s here at differs) ∙ here

-- and what isn't the new one was there
found_before : (part : Structures) (a : ℕ) (new : Structure) (b : ℕ) (t : Structure) → new ≢ t → with_structure part a new b ≡ Some t → part b ≡ Some t
found_before part a new b t other here =
    sym (with_there part a new b (λ (same : b ≡ a). other (same_Some new t (sym (with_here part a new) ∙ ap (with_structure part a new) (sym same) ∙ here)))) ∙ here

itds_beside : (part : Structures) (a : ℕ) (s new : Structure) → part a ≡ Some s → ((v : Itd) → Isochronous v ≢ s) → (b : ℕ) (v : Itd) → part b ≡ Some (Isochronous v) → HasItdAfter (with_structure part a new) b v
itds_beside part a s new at differs b v here = record { itd = v; here = beside part a s new b (Isochronous v) at (differs v) here; after = itd_itself v }

sitds_beside : (part : Structures) (a : ℕ) (s new : Structure) → part a ≡ Some s → ((v : Sitd) → SplitIsochronous v ≢ s) → (b : ℕ) (v : Sitd) → part b ≡ Some (SplitIsochronous v) → HasSitdAfter (with_structure part a new) b v
sitds_beside part a s new at differs b v here = record { sitd = v; here = beside part a s new b (SplitIsochronous v) at (differs v) here; after = sitd_itself v }

tables_beside : (part : Structures) (a : ℕ) (s new : Structure) → part a ≡ Some s → ((ws : List ℕ) → Table ws ≢ s) → (b : ℕ) (ws : List ℕ) → part b ≡ Some (Table ws) → with_structure part a new b ≡ Some (Table ws)
tables_beside part a s new at differs b ws here = beside part a s new b (Table ws) at (differs ws) here

sorts_put : (part : Structures) (a : ℕ) (s new : Structure) → part a ≡ Some s → sort_of new ≡ sort_of s → (b : ℕ) → option_map sort_of (with_structure part a new b) ≡ option_map sort_of (part b)
sorts_put part a s new at same b =
    ⊎_elim
    (λ (is : b ≡ a).
    ap (λ (i : ℕ). option_map sort_of (with_structure part a new i)) is ∙ ap (option_map sort_of) (with_here part a new) ∙ ap Some same
    ∙ sym (ap (λ (i : ℕ). option_map sort_of (part i)) is ∙ ap (option_map sort_of) at)) (λ (differs : b ≢ a). ap (option_map sort_of) (with_there part a new b differs)) (cases_eq b a)

-- neither is of a queue
others_kept : (part : Structures) (a : ℕ) (s new : Structure) → part a ≡ Some s
    → ((q : Qh) → (QueueHead q ≢ s) × (new ≢ QueueHead q)) → ((t : Qtd) → (Element t ≢ s) × (new ≢ Element t)) → ((pages : List ℕ) (k : ℕ) (bs : List ℕ) → (Buffer pages k bs ≢ s) × (new ≢ Buffer pages k bs))
    → Keeps part (with_structure part a new)
others_kept part a s new at heads elements buffers = record {
  alters = record {
    element = λ b t here. record { qtd = t; here = beside part a s new b (Element t) at (elements t).0 here; after = is_itself t };
    element_before = λ b t here. record { qtd = t; here = found_before part a new b (Element t) (elements t).1 here; after = is_itself t };
    buffer = λ b pages k bs here. record { bytes = bs; here = beside part a s new b (Buffer pages k bs) at (buffers pages k bs).0 here; size = refl };
    buffer_before = λ b pages k bs here. record { bytes = bs; here = found_before part a new b (Buffer pages k bs) (buffers pages k bs).1 here; size = refl };
  };
  idle = λ b t here off. beside part a s new b (Element t) at (elements t).0 here;
  head = λ b q here. record { queue = q; here = beside part a s new b (QueueHead q) at (heads q).0 here; same = refl };
  head_before = λ b q here. record { queue = q; here = found_before part a new b (QueueHead q) (heads q).1 here; same = refl };
}

-- ---- each kind

pub head_keeps : (part : Structures) (a : ℕ) (q new : Qh) → part a ≡ Some (QueueHead q) → bare new ≡ bare q → KeepsPart part (with_structure part a (QueueHead new))
head_keeps part a q new at same = record {
  queues = kept_head part a q new at same;
  itd = itds_beside part a (QueueHead q) (QueueHead new) at (λ v e. cc);
  sitd = sitds_beside part a (QueueHead q) (QueueHead new) at (λ v e. cc);
  table = tables_beside part a (QueueHead q) (QueueHead new) at (λ ws e. cc);
  sorts = sorts_put part a (QueueHead q) (QueueHead new) at refl;
}

pub element_keeps : (part : Structures) (a : ℕ) (t u : Qtd) → part a ≡ Some (Element t) → t.token.active ≡ true → IsAfter t u → KeepsPart part (with_structure part a (Element u))
element_keeps part a t u at on after = record {
  queues = kept_element part a t u at on after;
  itd = itds_beside part a (Element t) (Element u) at (λ v e. cc);
  sitd = sitds_beside part a (Element t) (Element u) at (λ v e. cc);
  table = tables_beside part a (Element t) (Element u) at (λ ws e. cc);
  sorts = sorts_put part a (Element t) (Element u) at refl;
}

pub buffer_keeps : (part : Structures) (a : ℕ) (pages : List ℕ) (k : ℕ) (bs cs : List ℕ) → part a ≡ Some (Buffer pages k bs) → length cs ≡ length bs → KeepsPart part (with_structure part a (Buffer pages k cs))
buffer_keeps part a pages k bs cs at size = record {
  queues = kept_buffer part a pages k bs cs at size;
  itd = itds_beside part a (Buffer pages k bs) (Buffer pages k cs) at (λ v e. cc);
  sitd = sitds_beside part a (Buffer pages k bs) (Buffer pages k cs) at (λ v e. cc);
  table = tables_beside part a (Buffer pages k bs) (Buffer pages k cs) at (λ ws e. cc);
  sorts = sorts_put part a (Buffer pages k bs) (Buffer pages k cs) at refl;
}

-- the one that stands there
abbrev as_itd : Structure → Itd → Itd
as_itd (Isochronous v) other = v
as_itd s other = other

abbrev as_sitd : Structure → Sitd → Sitd
as_sitd (SplitIsochronous v) other = v
as_sitd s other = other

pub found_itd : (o : Option Structure) (v w : Itd) → o ≡ Some (Isochronous v) → o ≡ Some (Isochronous w) → v ≡ w
found_itd o v w one other = ap (λ (s : Structure). as_itd s v) (same_Some (Isochronous v) (Isochronous w) (sym one ∙ other))

pub found_sitd : (o : Option Structure) (v w : Sitd) → o ≡ Some (SplitIsochronous v) → o ≡ Some (SplitIsochronous w) → v ≡ w
found_sitd o v w one other = ap (λ (s : Structure). as_sitd s v) (same_Some (SplitIsochronous v) (SplitIsochronous w) (sym one ∙ other))

itds_put : (part : Structures) (a : ℕ) (v w : Itd) → part a ≡ Some (Isochronous v) → IsItdAfter v w → (b : ℕ) (x : Itd) → part b ≡ Some (Isochronous x) → HasItdAfter (with_structure part a (Isochronous w)) b x
itds_put part a v w at after b x here =
    ⊎_elim
    (λ (is : b ≡ a). record {
      itd = w;
      here = ap (with_structure part a (Isochronous w)) is ∙ with_here part a (Isochronous w);
      after = subst (λ (y : Itd). IsItdAfter y w) (found_itd (part b) v x (ap part is ∙ at) here) after;
    }) (λ (differs : b ≢ a). record { itd = x; here = with_there part a (Isochronous w) b differs ∙ here; after = itd_itself x }) (cases_eq b a)

sitds_put : (part : Structures) (a : ℕ) (v w : Sitd) → part a ≡ Some (SplitIsochronous v) → IsSitdAfter v w → (b : ℕ) (x : Sitd) → part b ≡ Some (SplitIsochronous x) → HasSitdAfter (with_structure part a (SplitIsochronous w)) b x
sitds_put part a v w at after b x here =
    ⊎_elim
    (λ (is : b ≡ a). record {
      sitd = w;
      here = ap (with_structure part a (SplitIsochronous w)) is ∙ with_here part a (SplitIsochronous w);
      after = subst (λ (y : Sitd). IsSitdAfter y w) (found_sitd (part b) v x (ap part is ∙ at) here) after;
    }) (λ (differs : b ≢ a). record { sitd = x; here = with_there part a (SplitIsochronous w) b differs ∙ here; after = sitd_itself x }) (cases_eq b a)

pub itd_keeps : (part : Structures) (a : ℕ) (v w : Itd) → part a ≡ Some (Isochronous v) → IsItdAfter v w → KeepsPart part (with_structure part a (Isochronous w))
itd_keeps part a v w at after = record {
  queues = others_kept part a (Isochronous v) (Isochronous w) at (λ q. (λ e. cc, λ e. cc)) (λ t. (λ e. cc, λ e. cc)) (λ pages k bs. (λ e. cc, λ e. cc));
  itd = itds_put part a v w at after;
  sitd = sitds_beside part a (Isochronous v) (Isochronous w) at (λ x e. cc);
  table = tables_beside part a (Isochronous v) (Isochronous w) at (λ ws e. cc);
  sorts = sorts_put part a (Isochronous v) (Isochronous w) at refl;
}

pub sitd_keeps : (part : Structures) (a : ℕ) (v w : Sitd) → part a ≡ Some (SplitIsochronous v) → IsSitdAfter v w → KeepsPart part (with_structure part a (SplitIsochronous w))
sitd_keeps part a v w at after = record {
  queues = others_kept part a (SplitIsochronous v) (SplitIsochronous w) at (λ q. (λ e. cc, λ e. cc)) (λ t. (λ e. cc, λ e. cc)) (λ pages k bs. (λ e. cc, λ e. cc));
  itd = itds_beside part a (SplitIsochronous v) (SplitIsochronous w) at (λ x e. cc);
  sitd = sitds_put part a v w at after;
  table = tables_beside part a (SplitIsochronous v) (SplitIsochronous w) at (λ ws e. cc);
  sorts = sorts_put part a (SplitIsochronous v) (SplitIsochronous w) at refl;
}

-- ---- the structures of all owners

pub parts_itself : (parts now : StructureSets) → now ≡ parts → KeepsParts parts now
parts_itself parts now same n = subst (λ (x : StructureSets). KeepsPart (parts n) (x n)) (sym same) (part_itself (parts n))

pub parts_both : (parts mid now : StructureSets) → KeepsParts parts mid → KeepsParts mid now → KeepsParts parts now
parts_both parts mid now one two n = part_both (parts n) (mid n) (now n) (one n) (two n)

pub parts_put : (parts : StructureSets) (n a : ℕ) (s : Structure) → KeepsPart (parts n) (with_structure (parts n) a s) → KeepsParts parts (put parts n a s)
parts_put parts n a s keeps k =
    ⊎_elim (λ (same : k ≡ n). subst (λ (i : ℕ). KeepsPart (parts i) (put parts n a s i)) (sym same) (subst (KeepsPart (parts n)) (sym (put_here parts n a s)) keeps))
    (λ (differs : k ≢ n). subst (KeepsPart (parts k)) (sym (put_beside parts n a s k differs)) (part_itself (parts k))) (cases_eq k n)
