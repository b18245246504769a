-- A siTD in hand: its bytes are read, and its write-back is made in full.
use Rattle.std.proofs.Common.{◌≡◌, ◌≢◌, ℕ, ◌+◌, ◌<◌, ◌≤◌, Bool, true, false, if◌then◌else◌, List, length, take, drop, Option, Some, None, ap, refl, sym, subst, ◌∙◌, arith}
use Rattle.law_frames.proofs.Common.{sitd_is_no_buffer, received_else}
use Rattle.usb_base.specs.declared.packets.DataPart.TheVariants.{All}
use Rattle.usb_base.specs.declared.packets.Dir.TheVariants as Directions
use Rattle.usb_base.specs.declared.packets.Pid.TheVariants.{In}
use Rattle.usb_base.specs.declared.packets.Reply.{Reply}
use Rattle.usb_base.specs.declared.packets.Split.TheVariants.{Start, Complete}
use Rattle.word_mem.specs.Memory.{Mem}
use Rattle.mem_bytes.specs.Bytes.{place, with_bytes}
use Rattle.link_words.specs.Links.{link_of}
use Rattle.itd_sitd.specs.declared.sitd.Sitd.{Sitd}
use Rattle.itd_sitd.specs.Sitd.{sitd_words, IsSitdInRange}
use Rattle.mem_descriptors.specs.Descriptors.{state_words, state_written}
use Rattle.hc_copy.specs.Buffer.{Writing, size_of}
use Rattle.hc_copy.specs.WriteBack.{then_write}
use Rattle.hc_iso.specs.declared.held.SitdTurn.TheVariants as turns
use Rattle.hc_iso.specs.declared.held.SplitOutcome.{SplitOutcome}
use Rattle.hc_iso.specs.Sitd.{sitd_turn, part_bytes, sitd_ask, sitd_with, sitd_in, sitd_out, sitd_transaction, bit, sitd_place, moved_sitd}
use Rattle.hc_iso.specs.WriteBack.{sitd_pages, moved_by, state_back, sitd_written}
use Rattle.hc_iso.proofs.Ranges.{moved_in_range}
use Rattle.periodic_walk.specs.Sitd.{writing}
use Rattle.law_structures.specs.lent_structures.Structures.{Buffer, SplitIsochronous, HoldsBuffer, HoldsSplitIsochronous, Structures, StructureSets, Tells}
use Rattle.law_structures.proofs.lemmas.lent_structures.Names.{put_same, put_beside}
use Rattle.law_structures.specs.lent_structures.WriteBack.{Received, received_parts}
use Rattle.law_structures.proofs.lemmas.lent_structures.Found.{received_beside}
use Rattle.law_frames.specs.Met.{Kind, LeadsTo, IsBuffered, IsMetSitd}
use Rattle.law_frames.specs.FrameHand.{SitdCopy}
use Rattle.law_frames.specs.Frame.{turned, IsMoved, IsTurned}
use Rattle.law_frames.specs.FrameEffects.{sitd_back}
use Rattle.law_frames.proofs.Counted.{in_few as moved_in}
use Rattle.law_frames.proofs.PartTurning.{its_place_moves_on}
use Rattle.law_frames.specs.SitdBacks.{IsSitdInHand, AreRead, received_by, AreReceivedBy, parts_after, IsCounted}
use Rattle.law_frames.proofs.Turned.{unmoved, works_active}
use Rattle.law_frames.proofs.Reaching.{all_read, fewer_buffered, put_there, received_told, received_written, still_buffered}
use Rattle.law_frames.proofs.States.{state_put}

-- ---- the siTD in memory

-- the bytes that are left of it, where it is active
abbrev HasBytes : Structures → Sitd → Type 0
HasBytes part v = v.active ≡ true → 0 < v.total → IsBuffered part (sitd_pages v) (sitd_place v) v.total

met_same : (met : ℕ → Option Kind) (parts : StructureSets) (m : Mem) (reply : Reply) (c : SitdCopy) (k : IsSitdInHand met parts m reply c) → k.is_met.sitd ≡ c.sitd
met_same met parts m reply c k =
    let e : Some (SplitIsochronous k.is_met.sitd) ≡ Some (SplitIsochronous c.sitd) = sym k.is_met.here ∙ k.copied.here in
    cc

has_bytes : (met : ℕ → Option Kind) (parts : StructureSets) (m : Mem) (reply : Reply) (c : SitdCopy) → IsSitdInHand met parts m reply c → HasBytes (parts c.held.at) c.sitd
has_bytes met parts m reply c k = subst (HasBytes (parts c.held.at)) (met_same met parts m reply c k) k.is_met.bytes

has_link : (met : ℕ → Option Kind) (parts : StructureSets) (m : Mem) (reply : Reply) (c : SitdCopy) → IsSitdInHand met parts m reply c → LeadsTo met (link_of c.sitd.link)
has_link met parts m reply c k = subst (λ (v : Sitd). LeadsTo met (link_of v.link)) (met_same met parts m reply c k) k.is_met.link

-- ---- its place

bit_small : (b : Bool) → bit b ≤ 1
bit_small true = omega arith
bit_small false = omega arith

place_small : (v : Sitd) → IsSitdInRange v → sitd_place v < 8192
place_small v (link, (endpoint, (masks, (state, ((page0, (offset, rest)), later))))) = let b = bit_small v.page_select in omega (arith, offset, b)

place_inside : (v : Sitd) → IsSitdInRange v → sitd_place v ≤ size_of (sitd_pages v)
place_inside v range = let low = place_small v range in omega (arith, low)

-- ---- what it sends

in_few : (v : Sitd) (b : Bool)
    → (if b then sitd_with (sitd_ask v (Complete v.hub v.port) In) Directions.In 0 (part_bytes v) else sitd_with (sitd_ask v (Start v.hub v.port All) In) Directions.In 0 0).bytes ≤ v.total
in_few v true = omega arith
in_few v false = omega arith

few_at : (v : Sitd) (b : Bool) → (if b then sitd_in v else sitd_out v).bytes ≤ v.total
few_at v true = in_few v v.split_state
few_at v false = omega arith

-- no more bytes than are left
sends_few : (v : Sitd) → (sitd_transaction v).bytes ≤ v.total
sends_few v = few_at v v.dir_in

pub sitd_is_sent : (met : ℕ → Option Kind) (parts : StructureSets) (m : Mem) (reply : Reply) (c : SitdCopy) (u : ℕ) → IsSitdInHand met parts m reply c → c.held.settled ≡ None
    → sitd_turn u c.held.sitd ≡ turns.Work
    → AreRead (parts c.held.at) (sitd_pages c.held.sitd) (sitd_place c.held.sitd) (sitd_transaction c.held.sitd).bytes m
sitd_is_sent met parts m reply c u k none turn =
    let v : Sitd = c.held.sitd in
    let few = sends_few v in
    let left : HasBytes (parts c.held.at) (record v { link = c.sitd.link }) = subst (HasBytes (parts c.held.at)) (sym (unmoved met parts reply c k.copied none)) (has_bytes met parts m reply c k) in
    all_read m parts c.held.at (sitd_pages v) (sitd_place v) (sitd_transaction v).bytes k.tells (place_inside v k.copied.range)
    (λ some. fewer_buffered (parts c.held.at) (sitd_pages v) (sitd_place v) v.total (sitd_transaction v).bytes few (left (works_active u v turn) (omega (arith, few, some))))

-- ---- what it received

module _ (met : ℕ → Option Kind) (parts : StructureSets) (m : Mem) (reply : Reply) (c : SitdCopy) (o : SplitOutcome) where
  moved_copy : IsSitdInHand met parts m reply c → c.held.settled ≡ Some o → IsMoved c reply o
  moved_copy k settled = subst (λ (s : Option SplitOutcome). IsTurned c reply s) settled k.copied.turn

  pages_same : IsMoved c reply o → sitd_pages c.held.sitd ≡ sitd_pages c.sitd
  pages_same moved = ap sitd_pages (sym moved.same)

  place_same : IsMoved c reply o → sitd_place c.held.sitd ≡ sitd_place c.sitd
  place_same moved = ap sitd_place (sym moved.same)

  -- the bytes that were left before it
  left_before : IsSitdInHand met parts m reply c → IsMoved c reply o → 0 < c.sitd.total → IsBuffered (parts c.held.at) (sitd_pages c.held.sitd) (sitd_place c.held.sitd) c.sitd.total
  left_before k moved some =
      subst (λ (ps : List ℕ). IsBuffered (parts c.held.at) ps (sitd_place c.held.sitd) c.sitd.total) (sym (pages_same moved))
      (subst (λ (at : ℕ). IsBuffered (parts c.held.at) (sitd_pages c.sitd) at c.sitd.total) (sym (place_same moved)) (has_bytes met parts m reply c k moved.works some))

  pub received_put : IsSitdInHand met parts m reply c → c.held.settled ≡ Some o → (into : Received) × AreReceivedBy parts c o reply into
  received_put k settled =
      let moved = moved_copy k settled in
      let few : length (received_by c o reply) ≤ moved_by o = subst (λ (n : ℕ). n ≤ moved_by o) (sym moved.count) (moved_in c.held.sitd.dir_in (moved_by o)) in
      let left = moved.left in
      put_there (parts c.held.at) (sitd_pages c.held.sitd) (sitd_place c.held.sitd) (received_by c o reply)
      (λ some. fewer_buffered (parts c.held.at) (sitd_pages c.held.sitd) (sitd_place c.held.sitd) c.sitd.total (length (received_by c o reply)) (omega (arith, few, left)) (left_before k moved (omega (arith, few, left, some))))
      moved.small

  -- just these are counted
  total_kept : (n : ℕ) (d : Sitd) (v : Sitd) → (record (moved_sitd n v) { link = d.link }).total ≡ v.total
  unfolding moved_sitd
  total_kept n d v = refl

  pub counted : IsSitdInHand met parts m reply c → c.held.settled ≡ Some o → IsCounted c o reply
  counted k settled =
      let moved = moved_copy k settled in
      record { count = moved.count; left = ap (λ (n : ℕ). n + moved_by o) (total_kept (moved_by o) c.sitd c.held.sitd) ∙ moved.left }

  -- ---- the write-back

  front_at : (n : ℕ) (d w : Sitd) → take 3 (sitd_words (record (moved_sitd n (record (turned d w) { link = w.link })) { link = d.link })) ≡ take 3 (sitd_words d)
  unfolding sitd_words moved_sitd
  front_at n d w = refl

  last_at : (n : ℕ) (d w : Sitd) → drop 6 (sitd_words (record (moved_sitd n (record (turned d w) { link = w.link })) { link = d.link })) ≡ drop 6 (sitd_words d)
  unfolding sitd_words moved_sitd
  last_at n d w = refl

  front_same : IsMoved c reply o → (n : ℕ) → take 3 (sitd_words (record (moved_sitd n c.held.sitd) { link = c.sitd.link })) ≡ take 3 (sitd_words c.sitd)
  front_same moved n = ap (λ (x : Sitd). take 3 (sitd_words (record (moved_sitd n x) { link = c.sitd.link }))) (sym moved.same) ∙ front_at n c.sitd c.held.sitd

  last_same : IsMoved c reply o → (n : ℕ) → drop 6 (sitd_words (record (moved_sitd n c.held.sitd) { link = c.sitd.link })) ≡ drop 6 (sitd_words c.sitd)
  last_same moved n = ap (λ (x : Sitd). drop 6 (sitd_words (record (moved_sitd n x) { link = c.sitd.link }))) (sym moved.same) ∙ last_at n c.sitd c.held.sitd

  -- memory after the bytes, and after words 3 to 5
  abbrev with_received : Mem
  with_received = with_bytes m (sitd_pages c.held.sitd) (sitd_place c.held.sitd) (received_by c o reply)

  abbrev with_state : Mem
  with_state = state_written with_received c.held.at (state_words (moved_sitd (moved_by o) c.held.sitd))

  whole : (into : Received) → IsSitdInHand met parts m reply c → AreReceivedBy parts c o reply into → writing c.held o reply m ≡ record { memory = with_state; all = true }
  unfolding sitd_written
  whole into k received =
      let v : Sitd = c.held.sitd in
      let h : HoldsSplitIsochronous m c.held.at c.sitd = k.tells.each c.held.at c.held.at (SplitIsochronous c.sitd) k.copied.here in
      ap (λ (w : Writing). then_write w (state_back c.held.at (moved_sitd (moved_by o) v)))
      (received_written m parts c.held.at (sitd_pages v) (sitd_place v) (received_by c o reply) into k.tells (place_inside v k.copied.range) received)
      ∙ ap (λ (b : Bool). record { memory = with_state; all = b }) h.lent

  pub all_written : (into : Received) → IsSitdInHand met parts m reply c → AreReceivedBy parts c o reply into → (writing c.held o reply m).all ≡ true
  all_written into k received = ap (λ (w : Writing). w.all) (whole into k received)

  pub told_back : (into : Received) → IsSitdInHand met parts m reply c → c.held.settled ≡ Some o → AreReceivedBy parts c o reply into
      → Tells (writing c.held o reply m).memory (parts_after parts c o reply into)
  told_back into k settled received =
      let v : Sitd = c.held.sitd in
      let moved = moved_copy k settled in
      subst (λ (w : Writing). Tells w.memory (parts_after parts c o reply into)) (sym (whole into k received))
      (state_put with_received (received_parts parts c.held.at (received_by c o reply) into) c.held.at c.held.at c.sitd (moved_sitd (moved_by o) v)
      (received_told m parts c.held.at (sitd_pages v) (sitd_place v) (received_by c o reply) into k.tells received)
      (received_else parts c.held.at (sitd_pages v) (sitd_place v) (received_by c o reply) into c.held.at (SplitIsochronous c.sitd) received k.copied.here (sitd_is_no_buffer c.sitd))
      (moved_in_range (moved_by o) v k.copied.range) (front_same moved (moved_by o)) (last_same moved (moved_by o)))

  -- ---- the siTD then

  moved_kept : (n : ℕ) (v : Sitd) → ((moved_sitd n v).active ≡ v.active) × ((moved_sitd n v).total ≡ v.total) × (sitd_pages (moved_sitd n v) ≡ sitd_pages v)
  unfolding moved_sitd
  moved_kept n v = (refl, refl, refl)

  -- the bytes that are still left
  left_after : (into : Received) → IsSitdInHand met parts m reply c → IsMoved c reply o → AreReceivedBy parts c o reply into → 0 < c.held.sitd.total
      → IsBuffered (parts_after parts c o reply into c.held.at) (sitd_pages c.held.sitd) (sitd_place (moved_sitd (moved_by o) c.held.sitd)) c.held.sitd.total
  left_after into k moved received some =
      let v : Sitd = c.held.sitd in
      let left = moved.left in
      let before = left_before k moved (omega (arith, left, some)) in
      let after = before.after in
      let within = before.within in
      let h : HoldsBuffer m (place (sitd_pages v) before.start) (sitd_pages v) before.start before.bytes = k.tells.each c.held.at (place (sitd_pages v) before.start) (Buffer (sitd_pages v) before.start before.bytes) before.here in
      let room = h.within in
      let at : sitd_place (moved_sitd (moved_by o) v) ≡ sitd_place v + moved_by o = its_place_moves_on (moved_by o) v (omega (arith, left, some, within, room)) in
      let still = still_buffered parts c.held.at (sitd_pages v) (sitd_place v) (received_by c o reply) into (sitd_pages v) before.start before.bytes c.held.at c.sitd (sitd_back c (moved_by o)) received k.copied.here before.here in
      let long = still.long in
      record {
        start = before.start;
        bytes = still.after;
        here = still.here;
        after = omega (arith, at, after);
        within = omega (arith, at, left, within, long);
      }

  pub met_again : (into : Received) → IsSitdInHand met parts m reply c → c.held.settled ≡ Some o → AreReceivedBy parts c o reply into
      → IsMetSitd met c.held.at (parts_after parts c o reply into c.held.at)
  met_again into k settled received =
      let moved = moved_copy k settled in
      let kept = moved_kept (moved_by o) c.held.sitd in
      record {
        sitd = sitd_back c (moved_by o);
        here = put_same (received_parts parts c.held.at (received_by c o reply) into) c.held.at c.held.at (SplitIsochronous (sitd_back c (moved_by o)));
        link = has_link met parts m reply c k;
        bytes = λ works some.
            subst (λ (n : ℕ). IsBuffered (parts_after parts c o reply into c.held.at) (sitd_pages (moved_sitd (moved_by o) c.held.sitd)) (sitd_place (moved_sitd (moved_by o) c.held.sitd)) n) (sym kept.1)
            (subst (λ (ps : List ℕ). IsBuffered (parts_after parts c o reply into c.held.at) ps (sitd_place (moved_sitd (moved_by o) c.held.sitd)) c.held.sitd.total) (sym kept.2)
            (left_after into k moved received (subst (λ (n : ℕ). 0 < n) kept.1 some)));
      }

pub others_stay : (parts : StructureSets) (c : SitdCopy) (o : SplitOutcome) (reply : Reply) (into : Received) (n : ℕ) → n ≢ c.held.at → parts_after parts c o reply into n ≡ parts n
others_stay parts c o reply into n differs =
    put_beside (received_parts parts c.held.at (received_by c o reply) into) c.held.at c.held.at (SplitIsochronous (sitd_back c (moved_by o))) n differs
    ∙ received_beside parts c.held.at (received_by c o reply) into n differs
