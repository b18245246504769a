-- The link words that structures tell: of one that may be met, and what a store of the frame list leaves of them.
use Rattle.std.proofs.Common.{◌≡◌, ◌≢◌, ℕ, ◌+◌, ◌*◌, ◌/◌, ◌<◌, List, length, Option, Some, ap, sym, subst, ◌∙◌, arith}
use Rattle.std.specs.Prelude.{slice_index, slice_set}
use Rattle.std.proofs.lemmas.Option.{same_Some}
use Rattle.law_descriptors.proofs.Common.{first_of_words}
use Rattle.law_world.proofs.Common.{own_block}
use Rattle.word_mem.specs.Memory.{Mem, word_at}
use Rattle.link_words.specs.Links.{link_read, link_fields}
use Rattle.qh_qtd.specs.QueueHead.{qh_words}
use Rattle.qh_qtd.proofs.QhLaws.{qh_read-words, qh_read-link}
use Rattle.itd_sitd.specs.Itd.{itd_words}
use Rattle.itd_sitd.specs.Sitd.{sitd_words}
use Rattle.itd_sitd.proofs.ItdLaws.{itd_read-words, itd_read-link}
use Rattle.itd_sitd.proofs.SitdLaws.{sitd_read-words, sitd_read-link}
use Rattle.law_structures.specs.lent_structures.Structures.{Structure, QueueHead, Element as Qtd, Buffer, Table, Isochronous, SplitIsochronous, StructureSets, Holds, Tells}
use Rattle.law_structures.proofs.lemmas.lent_structures.Names.{put_beside, put_same}
use Rattle.claims_base.specs.Controller.{Base}
use Rattle.law_controller.specs.controlled_streams.Control.{FrameList}
use Rattle.law_frames.specs.Met.{Kind, AQueue, AnItd, ASitd, IsMetAs}
use Rattle.law_frames.specs.FrameHand.{FrameHand}
use Rattle.law_controller.specs.frame_stores.Stores.{HasLink, link_in, linked}
use Rattle.law_controller.proofs.lemmas.frame_stores.Linking.{stored_link_leads}
use Rattle.law_descriptors.specs.ListRows.{HasPart, IsStoredIn, an_element, a_link}
use Rattle.law_microframes.specs.visits.Ranks.{name_of, next_of}

-- ---- the first word of a structure is its link

pub told_link : (m : Mem) (a : ℕ) (s : Structure) → Holds m a s → HasLink s → link_read (word_at m a) ≡ link_in s
told_link m a (QueueHead q) h has =
    sym (qh_read-link (qh_words q) q (qh_read-words q h.range) ∙ ap (λ ws. link_read (slice_index ws 0)) (sym h.words) ∙ ap link_read (first_of_words m a 12 (omega arith)))
told_link m a (Isochronous v) h has =
    sym (itd_read-link (itd_words v) v (itd_read-words v h.range) ∙ ap (λ ws. link_read (slice_index ws 0)) (sym h.words) ∙ ap link_read (first_of_words m a 16 (omega arith)))
told_link m a (SplitIsochronous v) h has =
    sym (sitd_read-link (sitd_words v) v (sitd_read-words v h.range) ∙ ap (λ ws. link_read (slice_index ws 0)) (sym h.words) ∙ ap link_read (first_of_words m a 7 (omega arith)))
told_link m a _ h has = absurd has

-- ---- one that has a link

pub record HasOwn (parts : StructureSets) (n : ℕ) : Type 0 where
  pub structure : Structure
  pub here : parts n n ≡ Some structure
  pub link : HasLink structure

pub own_met : (met : ℕ → Option Kind) (parts : StructureSets) (n : ℕ) (kind : Kind) → IsMetAs met n (parts n) kind → HasOwn parts n
own_met met parts n AQueue k = record { structure = QueueHead k.part_is.queue; here = k.part_is.here; link = tt }
own_met met parts n AnItd k = record { structure = Isochronous k.itd; here = k.here; link = tt }
own_met met parts n ASitd k = record { structure = SplitIsochronous k.sitd; here = k.here; link = tt }

pub own_part : (parts : StructureSets) (n : ℕ) (kind : Kind) → HasPart n (parts n) kind → HasOwn parts n
own_part parts n AQueue k = record { structure = QueueHead k.part_is.queue; here = k.part_is.here; link = tt }
own_part parts n AnItd k = record { structure = Isochronous k.itd; here = k.here; link = tt }
own_part parts n ASitd k = record { structure = SplitIsochronous k.sitd; here = k.here; link = tt }

pub told_next : (m : Mem) (parts : StructureSets) (n : ℕ) (s : Structure) → Tells m parts → parts n n ≡ Some s → HasLink s → next_of m n ≡ name_of (link_in s)
told_next m parts n s told here has = ap name_of (told_link m n s (told.each n n s here) has)

-- .. has it still where it is told as before
pub told_same : (m mem : Mem) (parts now : StructureSets) (n : ℕ) → Tells m parts → Tells mem now → HasOwn parts n → now n n ≡ parts n n → next_of mem n ≡ next_of m n
told_same m mem parts now n told after own same =
    told_next mem now n own.structure after (same ∙ own.here) own.link ∙ sym (told_next m parts n own.structure told own.here own.link)

-- ---- none is in the frame list

no_table : (words : List ℕ) (s : Structure) → Table words ≡ s → HasLink s → ⊥
no_table words s same has = subst HasLink (sym same) has

pub table_apart : (m : Mem) (parts : StructureSets) (base : Base) (n i : ℕ) → Tells m parts → FrameList parts base → HasOwn parts n → i < 1024 → n ≡ base.periodic_list_base + 4 * i → ⊥
table_apart m parts base n i told list own low is =
    let size = list.size in
    let below : i < length list.words = omega (arith, size, low) in
    let b : ℕ = base.periodic_list_base in
    let one = told.alone n n b b own.structure (Table list.words) (n / 32) own.here list.here (own_block n own.structure own.link) (i, below, ap (λ (a : ℕ). a / 32) is) in
    let same : parts b b ≡ parts n n = ap (λ (a : ℕ). parts a a) one.0 in
    no_table list.words own.structure (same_Some (Table list.words) own.structure (sym list.here ∙ same ∙ own.here)) own.link

-- ---- a store of the list

module _ (m mem : Mem) (parts now : StructureSets) (base : Base) (frame later : FrameHand) (at v : ℕ) (stored : IsStoredIn base parts frame at v now later) (told : Tells m parts)
    (after : Tells mem now) where
  others_by : (n : ℕ) → HasOwn parts n → n ≢ at → IsStoredIn base parts frame at v now later → now n n ≡ parts n n
  others_by n own differs (an_element i list low at_is now_is later_is) =
      ap (λ (t : StructureSets). t n n) now_is
      ∙ ap (λ part. part n) (put_beside parts base.periodic_list_base base.periodic_list_base (Table (slice_set list.words i v)) n (λ same. table_here list same))
    where
      table_here : FrameList parts base → n ≡ base.periodic_list_base → ⊥
      table_here list same = table_apart m parts base n 0 told list own (omega arith) (let e = same in omega (arith, e))
  others_by n own differs (a_link s here has now_is later_is) =
      ap (λ (t : StructureSets). t n n) now_is ∙ ap (λ part. part n) (put_beside parts at at (linked (link_fields (link_read v)) s) n differs)

  pub other_links : (n : ℕ) → HasOwn parts n → n ≢ at → next_of mem n ≡ next_of m n
  other_links n own differs = told_same m mem parts now n told after own (others_by n own differs stored)

  here_by : HasOwn parts at → IsStoredIn base parts frame at v now later → next_of mem at ≡ name_of (link_read v)
  here_by own (an_element i list low at_is now_is later_is) = absurd (table_apart m parts base at i told list own low at_is)
  here_by own (a_link s here has now_is later_is) =
      told_next mem now at (linked (link_fields (link_read v)) s) after (ap (λ (t : StructureSets). t at at) now_is ∙ put_same parts at at (linked (link_fields (link_read v)) s)) (still s has)
      ∙ ap name_of (stored_link_leads (link_read v) s has)
    where
      still : (s : Structure) → HasLink s → HasLink (linked (link_fields (link_read v)) s)
      still (QueueHead q) has = tt
      still (Qtd t) has = absurd has
      still (Buffer pages start bytes) has = absurd has
      still (Table words) has = absurd has
      still (Isochronous v) has = tt
      still (SplitIsochronous v) has = tt

  pub link_here : HasOwn parts at → next_of mem at ≡ name_of (link_read v)
  link_here own = here_by own stored
