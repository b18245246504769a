-- A store of the frame list leaves each structure of its kind, and each descriptor one still.
use Rattle.std.proofs.Common.{◌≡◌, ◌≢◌, ℕ, Bool, true, false, List, [], length, Option, Some, option_map, ⊎_elim, ap, refl, sym, subst, ◌∙◌}
use Rattle.std.specs.Prelude.{slice_set}
use Rattle.std.proofs.lemmas.Bool.{cases_eq}
use Rattle.std.proofs.lemmas.List.{length-set}
use Rattle.std.proofs.lemmas.Option.{same_Some}
use Rattle.link_words.specs.declared.fields.LinkBits.{LinkBits}
use Rattle.mem_bytes.specs.Bytes.{place}
use Rattle.hc_iso.specs.Sitd.{sitd_place}
use Rattle.hc_iso.specs.WriteBack.{itd_pages, slot_place, sitd_pages}
use Rattle.itd_sitd.specs.Itd.{slot_of}
use Rattle.link_words.specs.Links.{link_read, link_fields}
use Rattle.law_structures.specs.lent_structures.Structures.{Structure, Element, Buffer, Table, Isochronous, SplitIsochronous, Structures, StructureSets, put}
use Rattle.law_structures.proofs.lemmas.lent_structures.Names.{put_beside, put_same, put_else, put_found}
use Rattle.law_driver_ring.specs.Inventory.{sort_of, sorts_of}
use Rattle.law_frames.specs.Met.{IsBuffered}
use Rattle.law_controller.specs.frame_stores.Stores.{HasLink, linked}
use Rattle.law_descriptors.specs.Described.{HasDescriptor}
use Rattle.law_descriptors.specs.Both.{Keeps}
use Rattle.law_descriptors.specs.ListRows.{an_element, a_link, StoreKeepsParts}

-- ---- a structure takes the place of one of its kind

other_kind : (o : Option Structure) (s t : Structure) → o ≡ Some s → o ≡ Some t → s ≢ t → ⊥
other_kind o s t one two differ = differ (same_Some s t (sym one ∙ two))

put_sorts : (parts : StructureSets) (n : ℕ) (s t : Structure) (i b : ℕ) → parts n n ≡ Some s → sort_of t ≡ sort_of s → sorts_of (put parts n n t) i b ≡ sorts_of parts i b
put_sorts parts n s t i b here same =
    ⊎_elim (λ (owner : i ≡ n).
    ⊎_elim (λ (name : b ≡ n).
    ap (λ (j : ℕ). sorts_of (put parts n n t) j b) owner ∙ ap (sorts_of (put parts n n t) n) name ∙ ap (option_map sort_of) (put_same parts n n t) ∙ ap (λ k. Some k) same
    ∙ sym (ap (λ (j : ℕ). sorts_of parts j b) owner ∙ ap (sorts_of parts n) name ∙ ap (option_map sort_of) here))
    (λ (differs : b ≢ n).
    ap (λ (j : ℕ). sorts_of (put parts n n t) j b) owner ∙ ap (option_map sort_of) (put_else parts n n t b differs) ∙ ap (λ (j : ℕ). sorts_of parts j b) (sym owner)) (cases_eq b n))
    (λ (differs : i ≢ n). ap (λ (part : Structures). option_map sort_of (part b)) (put_beside parts n n t i differs)) (cases_eq i n)

-- ---- a link

linked_sort : (l : LinkBits) (s : Structure) → HasLink s → sort_of (linked l s) ≡ sort_of s
linked_sort l (Element t) has = absurd has
linked_sort l (Buffer pages k bytes) has = absurd has
linked_sort l (Table words) has = absurd has
linked_sort l _ has = refl

linked_no_buffer : (l : LinkBits) (s : Structure) (pages : List ℕ) (k : ℕ) (bs : List ℕ) → HasLink s → Buffer pages k bs ≡ linked l s → ⊥
linked_no_buffer l (Element t) pages k bs has is = absurd has
linked_no_buffer l (Buffer ps i b) pages k bs has is = absurd has
linked_no_buffer l (Table words) pages k bs has is = absurd has
linked_no_buffer l _ pages k bs has is = cc

linked_no_table : (l : LinkBits) (s : Structure) (ws : List ℕ) → HasLink s → Table ws ≡ linked l s → ⊥
linked_no_table l (Element t) ws has is = absurd has
linked_no_table l (Buffer ps i b) ws has is = absurd has
linked_no_table l (Table words) ws has is = absurd has
linked_no_table l _ ws has is = cc

no_buffer : (s : Structure) (pages : List ℕ) (k : ℕ) (bs : List ℕ) → HasLink s → s ≡ Buffer pages k bs → ⊥
no_buffer s pages k bs has is = subst HasLink is has

-- a buffer isn't where the link is
buffered_put : (parts : StructureSets) (n : ℕ) (s t : Structure) (pages : List ℕ) (from many : ℕ) → parts n n ≡ Some s → HasLink s → IsBuffered (parts n) pages from many → IsBuffered (put parts n n t n) pages from many
buffered_put parts n s t pages from many here has k = record {
  start = k.start;
  bytes = k.bytes;
  here = put_else parts n n t (place pages k.start)
      (λ same. no_buffer s pages k.start k.bytes has (same_Some s (Buffer pages k.start k.bytes) (sym here ∙ ap (parts n) (sym same) ∙ k.here))) ∙ k.here;
  after = k.after;
  within = k.within;
}

linked_descriptor : (parts : StructureSets) (n : ℕ) (s : Structure) (l : LinkBits) (split : Bool) → parts n n ≡ Some s → HasLink s → HasDescriptor split (parts n) n → HasDescriptor split (put parts n n (linked l s) n) n
linked_descriptor parts n s l true here has k =
    let is : s ≡ SplitIsochronous k.sitd = same_Some s (SplitIsochronous k.sitd) (sym here ∙ k.here) in
    record {
      sitd = record k.sitd { link = l };
      here = put_same parts n n (linked l s) ∙ ap (λ (x : Structure). Some (linked l x)) is;
      bytes = λ active some. buffered_put parts n s (linked l s) (sitd_pages k.sitd) (sitd_place k.sitd) k.sitd.total here has (k.bytes active some);
    }
linked_descriptor parts n s l false here has k =
    let is : s ≡ Isochronous k.itd = same_Some s (Isochronous k.itd) (sym here ∙ k.here) in
    record {
      itd = record k.itd { link = l };
      here = put_same parts n n (linked l s) ∙ ap (λ (x : Structure). Some (linked l x)) is;
      slots = λ u low active some. buffered_put parts n s (linked l s) (itd_pages k.itd) (slot_place (slot_of u k.itd)) (slot_of u k.itd).length here has (k.slots u low active some);
    }

-- one of another owner is as it was
descriptor_beside : (parts : StructureSets) (n : ℕ) (t : Structure) (split : Bool) (i : ℕ) → i ≢ n → HasDescriptor split (parts i) i → HasDescriptor split (put parts n n t i) i
descriptor_beside parts n t split i differs k = subst (λ (part : Structures). HasDescriptor split part i) (sym (put_beside parts n n t i differs)) k

link_keeps : (parts : StructureSets) (n : ℕ) (s : Structure) (l : LinkBits) → parts n n ≡ Some s → HasLink s → Keeps parts (put parts n n (linked l s))
link_keeps parts n s l here has = record {
  sorts = λ i b. put_sorts parts n s (linked l s) i b here (linked_sort l s has);
  extents = record {
    buffers = λ i b pages k bs there.
        ⊎_elim (λ (x : (i ≡ n) × (b ≡ n) × (Buffer pages k bs ≡ linked l s)). absurd (linked_no_buffer l s pages k bs has x.2))
        (λ (was : parts i b ≡ Some (Buffer pages k bs)). record { bytes = bs; here = was; size = refl }) (put_found parts n n (linked l s) i b (Buffer pages k bs) there);
    tables = λ i b ws there.
        ⊎_elim (λ (x : (i ≡ n) × (b ≡ n) × (Table ws ≡ linked l s)). absurd (linked_no_table l s ws has x.2))
        (λ (was : parts i b ≡ Some (Table ws)). record { words = ws; here = was; size = refl }) (put_found parts n n (linked l s) i b (Table ws) there);
  };
  descriptors = λ split i k.
      ⊎_elim (λ (owner : i ≡ n).
      subst (λ (j : ℕ). HasDescriptor split (put parts n n (linked l s) j) j) (sym owner)
      (linked_descriptor parts n s l split here has (subst (λ (j : ℕ). HasDescriptor split (parts j) j) owner k)))
      (λ (differs : i ≢ n). descriptor_beside parts n (linked l s) split i differs k) (cases_eq i n);
}

-- ---- an element

table_no_buffer : (pages : List ℕ) (k : ℕ) (bs ws : List ℕ) → Buffer pages k bs ≡ Table ws → ⊥
table_no_buffer pages k bs ws is = cc

words_in : Structure → List ℕ
words_in (Table ws) = ws
words_in _ = []

same_words : (ws vs : List ℕ) → Table ws ≡ Table vs → ws ≡ vs
unfolding words_in
same_words ws vs is = ap words_in is

table_no_descriptor : (parts : StructureSets) (n : ℕ) (ws : List ℕ) (split : Bool) → parts n n ≡ Some (Table ws) → HasDescriptor split (parts n) n → ⊥
table_no_descriptor parts n ws true here k = other_kind (parts n n) (Table ws) (SplitIsochronous k.sitd) here k.here (λ is. cc)
table_no_descriptor parts n ws false here k = other_kind (parts n n) (Table ws) (Isochronous k.itd) here k.here (λ is. cc)

table_keeps : (parts : StructureSets) (n : ℕ) (ws vs : List ℕ) → parts n n ≡ Some (Table ws) → length vs ≡ length ws → Keeps parts (put parts n n (Table vs))
table_keeps parts n ws vs here size = record {
  sorts = λ i b. put_sorts parts n (Table ws) (Table vs) i b here refl;
  extents = record {
    buffers = λ i b pages k bs there.
        ⊎_elim (λ (x : (i ≡ n) × (b ≡ n) × (Buffer pages k bs ≡ Table vs)). absurd (table_no_buffer pages k bs vs x.2))
        (λ (was : parts i b ≡ Some (Buffer pages k bs)). record { bytes = bs; here = was; size = refl }) (put_found parts n n (Table vs) i b (Buffer pages k bs) there);
    tables = λ i b us there.
        ⊎_elim (λ (x : (i ≡ n) × (b ≡ n) × (Table us ≡ Table vs)).
        record { words = ws; here = ap (λ (j : ℕ). parts j b) x.0 ∙ ap (parts n) x.1 ∙ here; size = sym (ap length (same_words us vs x.2) ∙ size) })
        (λ (was : parts i b ≡ Some (Table us)). record { words = us; here = was; size = refl }) (put_found parts n n (Table vs) i b (Table us) there);
  };
  descriptors = λ split i k.
      ⊎_elim (λ (owner : i ≡ n). absurd (table_no_descriptor parts n ws split here (subst (λ (j : ℕ). HasDescriptor split (parts j) j) owner k)))
      (λ (differs : i ≢ n). descriptor_beside parts n (Table vs) split i differs k) (cases_eq i n);
}

pub store_keeps_parts : StoreKeepsParts
store_keeps_parts base parts now frame later at v (an_element k list low is same hand) =
    subst (Keeps parts) (sym same) (table_keeps parts base.periodic_list_base list.words (slice_set list.words k v) list.here (length-set list.words k v))
store_keeps_parts base parts now frame later at v (a_link s here has same hand) = subst (Keeps parts) (sym same) (link_keeps parts at s (link_fields (link_read v)) here has)
