-- The runs that each command needs, as they are asked and as they are taken.
use Rattle.std.proofs.Common.{◌≡◌, ℕ, zero, suc, ◌*◌, Bool, true, false, List, [], ◌∷◌, ◌++◌, Option, Some, None, refl, ap, sym, ◌∙◌, arith}
use Rattle.std.specs.Prelude.{◌||◌, not, nat_eq, length, count_by, replicate, map, if◌then◌else◌}
use Rattle.std.specs.List.{flat_map}
use Rattle.std.specs.Option.{option_map_or}
use Rattle.std.proofs.lemmas.List.{length-map}
use Rattle.std.proofs.lemmas.Bool.Decides.{nat_tests}
use Rattle.std.proofs.lemmas.Bool.{false≢true}
use Rattle.std.proofs.lemmas.List.Concat.{flat_map-cons}
use Rattle.usb_base.specs.declared.packets.EpKind.{EpKind}
use Rattle.usb_base.specs.declared.packets.EpKind.TheVariants as kinds
use Rattle.usb_base.specs.declared.packets.Way.{Way}
use Rattle.usb_base.specs.declared.packets.Way.TheVariants as ways
use Rattle.bandwidth.specs.Placements.{has, below, is_classic}
use Rattle.bandwidth.specs.declared.placements.Placement.{Placement}
use Rattle.drv_periodic_table.specs.Descriptors.{slots_before, is_in}
use Rattle.drv_table.specs.declared.content.Endpoint.{Endpoint}
use Rattle.drv_table.specs.declared.content.Stage.{Stage}
use Rattle.drv_table.specs.DriverContent.{is_same_way}
use Rattle.drv_table.specs.Words.{cut, needs, buffer_needs, get_stages, put_stages, in_stage, out_stage, request_stages, request_length, setup_stage, data_stage, status_stage, asks_in, is_control as words_control}
use Rattle.drv_table.specs.Kinds.{is_iso}
use Rattle.drv_table.specs.Offers.{is_queued}
use Rattle.drv_table.specs.IsoOffers.{slots_of, total_of, smask_of, descriptor_blocks, iso_needs, spans_too_long, has_slots}
use Rattle.claims_answers.specs.Refusals.{has_packets_one_way, is_control, is_isochronous}
use Rattle.claims_answers.specs.Refusals.{data_bytes, slot_of, descriptors_too_long, buffer_runs, transfer_runs, request_sizes, slots_bytes, descriptor_runs}

-- ---- what each needs

pub queued_is : (k : EpKind) → has_packets_one_way k ≡ is_queued k
queued_is kinds.Bulk = refl
queued_is kinds.Interrupt = refl
queued_is kinds.Control = refl
queued_is kinds.Iso = refl

pub control_is : (k : EpKind) → is_control k ≡ words_control k
control_is kinds.Bulk = refl
control_is kinds.Interrupt = refl
control_is kinds.Control = refl
control_is kinds.Iso = refl

pub iso_is : (k : EpKind) → is_isochronous k ≡ is_iso k
iso_is kinds.Bulk = refl
iso_is kinds.Interrupt = refl
iso_is kinds.Control = refl
iso_is kinds.Iso = refl

pub buffer_is : (n : ℕ) → buffer_runs n ≡ buffer_needs n
buffer_is zero = refl
buffer_is (suc n) = refl

-- the runs of stages are those of their sizes
pub buffers_are : (ss : List Stage)
    → flat_map buffer_runs (map (λ (s : Stage). s.long) ss) ≡ flat_map (λ (s : Stage). buffer_needs s.long) ss
buffers_are [] = refl
buffers_are (s ∷ ss) =
    flat_map-cons buffer_runs s.long (map (λ (z : Stage). z.long) ss)
    ∙ ap (λ (xs : List ℕ). xs ++ flat_map buffer_runs (map (λ (z : Stage). z.long) ss)) (buffer_is s.long)
    ∙ ap (λ (xs : List ℕ). buffer_needs s.long ++ xs) (buffers_are ss)
    ∙ sym (flat_map-cons (λ (z : Stage). buffer_needs z.long) s ss)

pub needs_are : (ss : List Stage) → transfer_runs (map (λ (s : Stage). s.long) ss) ≡ needs ss
needs_are ss =
    ap (λ (n : ℕ). replicate n 1 ++ flat_map buffer_runs (map (λ (s : Stage). s.long) ss)) (length-map ss (λ (s : Stage). s.long))
    ∙ ap (λ (ns : List ℕ). replicate (length ss) 1 ++ ns) (buffers_are ss)

pub in_sizes : (ns : List ℕ) → map (λ (s : Stage). s.long) (map in_stage ns) ≡ ns
in_sizes [] = refl
in_sizes (n ∷ ns) = ap (λ (xs : List ℕ). n ∷ xs) (in_sizes ns)

pub out_sizes : (ns : List ℕ) → map (λ (s : Stage). s.long) (map out_stage ns) ≡ ns
out_sizes [] = refl
out_sizes (n ∷ ns) = ap (λ (xs : List ℕ). n ∷ xs) (out_sizes ns)

pub get_runs : (len by : ℕ) → transfer_runs (cut len by) ≡ needs (get_stages len by)
get_runs len by = ap transfer_runs (sym (in_sizes (cut len by))) ∙ needs_are (get_stages len by)

pub put_runs : (len by : ℕ) → transfer_runs (cut len by) ≡ needs (put_stages len by)
put_runs len by = ap transfer_runs (sym (out_sizes (cut len by))) ∙ needs_are (put_stages len by)

pub asked_sizes : (n : ℕ) (b to_host : Bool) → nat_eq n 0 ≡ b
    → map (λ (s : Stage). s.long) (if b then setup_stage ∷ status_stage true ∷ [] else setup_stage ∷ data_stage to_host n ∷ status_stage
    (not to_host) ∷ []) ≡ request_sizes n
asked_sizes zero true to_host is = refl
asked_sizes zero false to_host is = absurd (false≢true (sym is))
asked_sizes (suc n) true to_host is = let h : suc n ≡ 0 = grind (arith, nat_tests) in absurd (omega arith)
asked_sizes (suc n) false to_host is = refl

pub request_runs : (setup : List ℕ) → transfer_runs (request_sizes (data_bytes setup)) ≡ needs (request_stages setup)
request_runs setup =
    ap transfer_runs (sym (asked_sizes (request_length setup) (nat_eq (request_length setup) 0) (asks_in setup) refl)) ∙ needs_are
    (request_stages setup)

-- ---- isochronous descriptors

pub in_is : (w : Way) → is_same_way w ways.In ≡ is_in w
in_is ways.In = refl
in_is ways.Out = refl
in_is ways.Ctl = refl

module _ (x : Endpoint) (len : ℕ) where
  pub slot_is : slot_of x len ≡ (slots_of x len).slot
  slot_is = ap (λ (b : Bool). if b then x.desc.max * x.desc.multi else len) (in_is x.desc.name.way)

  pub smask_is : (o : Option Placement) → option_map_or (λ (p : Placement). p.smask) o 0 ≡ smask_of o
  smask_is None = refl
  smask_is (Some p) = refl

  pub total_is : slots_bytes x (slot_of x len) ≡ total_of (slots_of x len)
  unfolding slots_before
  total_is =
      ap (slots_bytes x) slot_is
      ∙ ap (λ (mask : ℕ). if is_classic x.desc.speed then (slots_of x len).slot else count_by (has mask) (below 8) * (slots_of x len).slot)
      (smask_is x.placement)

  pub one_is : descriptor_runs x (slot_of x len) ≡ descriptor_blocks (slots_of x len) ∷ buffer_needs (total_of (slots_of x len))
  one_is =
      ap (λ (n : ℕ). (if is_classic x.desc.speed then 1 else 2) ∷ buffer_runs n) total_is
      ∙ ap (λ (ns : List ℕ). (if is_classic x.desc.speed then 1 else 2) ∷ ns) (buffer_is (total_of (slots_of x len)))

  pub all_are : (n : ℕ) → flat_map (λ (ns : List ℕ). ns) (replicate n (descriptor_runs x (slot_of x len))) ≡ iso_needs (slots_of x len) n
  all_are zero = refl
  all_are (suc n) =
      flat_map-cons (λ (ns : List ℕ). ns) (descriptor_runs x (slot_of x len)) (replicate n (descriptor_runs x (slot_of x len)))
      ∙ ap (λ (ns : List ℕ). ns ++ flat_map (λ (xs : List ℕ). xs) (replicate n (descriptor_runs x (slot_of x len)))) one_is
      ∙ ap (λ (ns : List ℕ). descriptor_blocks (slots_of x len) ∷ (buffer_needs (total_of (slots_of x len)) ++ ns)) (all_are n)

  pub long_is : (n : ℕ) → descriptors_too_long x (slot_of x len) n ≡ (spans_too_long x n || not (has_slots x (slots_of x len)))
  long_is n = ap (λ (k : ℕ). descriptors_too_long x k n) slot_is
