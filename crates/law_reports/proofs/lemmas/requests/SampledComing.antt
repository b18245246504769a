-- The second request of the worked queue, once it is lent.
use Rattle.std.proofs.Common.{◌≡◌, ℕ, Some, refl, sym, subst, ⊎_elim, arith}
use Rattle.std.specs.Prelude.{List, replicate}
use Rattle.law_structures.proofs.Common.{element_is}
use Rattle.qh_qtd.specs.Blank.{blank_qtd}
use Rattle.qh_qtd.specs.declared.qtd.Qtd.{Qtd}
use Rattle.qh_qtd.specs.declared.queue_head.Qh.{Qh}
use Rattle.law_structures.specs.lent_structures.Structures.{Structure, QueueHead, Element, Buffer, StructureSets, put}
use Rattle.law_structures.specs.lent_structures.Sound.{buffer_name, HasBuffer}
use Rattle.law_structures.proofs.lemmas.lent_structures.Altering.{found_element}
use Rattle.law_structures.proofs.lemmas.lent_structures.Names.{put_else, put_found}
use Rattle.law_request.specs.Samples.{get_device, get_configuration}
use Rattle.law_devices.specs.ring_requests.Samples.{queue, setup, read, status, pages_at, parts, qtds, nothing, first_status, second_setup, second_read}
use Rattle.law_devices.specs.request_stores.Samples.{first_only, one_parts, last_status, with_read, with_status, with_tail, with_setup, lent_parts, both_now, second_places}
use Rattle.law_devices.proofs.lemmas.request_stores.Asking.{second_next}
use Rattle.law_reports.specs.requests.Coming.{IsComing}
use Rattle.law_reports.proofs.lemmas.requests.Coming.{lent_is_coming}

-- ---- no other qTD has its setup bytes

abbrev IsOther : Qtd → Type 0
IsOther u = buffer_name u ≡ buffer_name second_setup → ⊥

found_else : (ps : StructureSets) (a : ℕ) (s : Structure) (b : ℕ) (u : Qtd) → put ps 32 a s 32 b ≡ Some (Element u) → (Element u ≡ s → IsOther u) → (ps 32 b ≡ Some (Element u) → IsOther u) → IsOther u
found_else ps a s b u found one other = ⊎_elim {C = IsOther u} (λ (k : (32 ≡ 32) × (b ≡ a) × (Element u ≡ s)). one k.2) other (put_found ps 32 a s 32 b (Element u) found)

is_other : (u t : Qtd) → Element u ≡ Element t → IsOther t → IsOther u
is_other u t same other = subst IsOther (sym (element_is u t same)) other

no_buffer : {u : Qtd} {pages : List ℕ} {k : ℕ} {bs : List ℕ} → Element u ≡ Buffer pages k bs → ⊥
no_buffer e = cc

no_head : {u : Qtd} {q : Qh} → Element u ≡ QueueHead q → ⊥
no_head e = cc

nothing_there : {u : Qtd} (b : ℕ) → nothing 32 b ≡ Some (Element u) → ⊥
nothing_there b e = cc

blank_other : IsOther blank_qtd
blank_other same = omega (arith, same)

of_first : (b : ℕ) (u : Qtd) → one_parts 32 b ≡ Some (Element u) → IsOther u
of_first b u found =
    found_else (put parts 32 128 (Element first_status)) 160 (Element blank_qtd) b u found (λ same. is_other u blank_qtd same blank_other) (λ found.
    found_else parts 128 (Element first_status) b u found (λ same. is_other u first_status same (λ is. omega (arith, is))) (λ found.
    found_else (put qtds 32 0 (Buffer (pages_at 0) 0 get_device.setup)) 4096 (Buffer (pages_at 1) 0 (replicate 18 0)) b u found (λ same. absurd (no_buffer same)) (λ found.
    found_else qtds 0 (Buffer (pages_at 0) 0 get_device.setup) b u found (λ same. absurd (no_buffer same)) (λ found.
    found_else (put (put (put nothing 32 32 (QueueHead queue)) 32 64 (Element setup)) 32 96 (Element read)) 128 (Element status) b u found (λ same. is_other u status same (λ is. omega (arith, is))) (λ found.
    found_else (put (put nothing 32 32 (QueueHead queue)) 32 64 (Element setup)) 96 (Element read) b u found (λ same. is_other u read same (λ is. omega (arith, is))) (λ found.
    found_else (put nothing 32 32 (QueueHead queue)) 64 (Element setup) b u found (λ same. is_other u setup same (λ is. omega (arith, is))) (λ found.
    found_else nothing 32 (QueueHead queue) b u found (λ same. absurd (no_head same)) (λ found. absurd (nothing_there b found)))))))))

of_both : (b : ℕ) (u : Qtd) → lent_parts 32 b ≡ Some (Element u) → IsOther u
of_both b u found =
    found_else with_setup 12288 (Buffer (pages_at 3) 0 (replicate 9 0)) b u found (λ same. absurd (no_buffer same)) (λ found.
    found_else with_tail 8192 (Buffer (pages_at 2) 0 get_configuration.setup) b u found (λ same. absurd (no_buffer same)) (λ found.
    found_else with_status 256 (Element blank_qtd) b u found (λ same. is_other u blank_qtd same blank_other) (λ found.
    found_else with_read 224 (Element last_status) b u found (λ same. is_other u last_status same (λ is. omega (arith, is))) (λ found.
    found_else one_parts 192 (Element second_read) b u found (λ same. is_other u second_read same (λ is. omega (arith, is))) (λ found. of_first b u found)))))

-- ---- it is coming

read_buffer : HasBuffer (lent_parts 32) second_read second_read.token.total
read_buffer = record { bytes = replicate 9 0; here = refl; size = refl }

pub second_coming : IsComing first_only get_configuration second_places 160 256 second_setup (lent_parts 32)
second_coming =
    lent_is_coming first_only get_configuration second_places 160 256 second_setup (both_now 32) (lent_parts 32)
    (record {
      request = second_next.request;
      setup = refl;
      behind = refl;
      apart = second_next.apart;
      others = second_next.others;
      beside = λ same. omega (arith, same);
      here = refl;
      same = λ a differs. put_else lent_parts 32 160 (Element second_setup) a differs;
      fresh = second_next.fresh;
      buffer = λ some t there. subst (λ (u : Qtd). HasBuffer (lent_parts 32) u u.token.total) (found_element (lent_parts 32 192) second_read t refl there) read_buffer;
      unnamed = λ b u differs found same bytes. of_both b u found same;
      tail = record { qtd = blank_qtd; here = refl; idle = refl };
    })
