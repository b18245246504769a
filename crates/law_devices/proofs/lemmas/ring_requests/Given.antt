-- The bytes that go out with a transaction of a queue head that works on a stage are those of the stage.
use Rattle.std.proofs.Common.{◌≡◌, ◌≢◌, ℕ, ◌-◌, ◌<◌, ◌≤◌, ◌==◌, Bool, true, false, if◌then◌else◌, List, [], ◌++◌, length, take, drop, ap, refl, sym, ◌∙◌, ⊎_elim, inl, inr, arith}
use Rattle.std.specs.Prelude.{◌⊎◌}
use Rattle.std.proofs.lemmas.Bool.{cases_eq, cases_lt, eq-eqb, false≢true}
use Rattle.std.proofs.lemmas.List.{length-append}
use Rattle.law_common.proofs.Lists.{take_whole}
use Rattle.law_common.proofs.Numbers.{other_number}
use Rattle.usb_base.specs.declared.packets.Pid.{Pid}
use Rattle.usb_base.specs.declared.packets.Pid.TheVariants as pids
use Rattle.qh_qtd.specs.declared.qtd.Qtd.{Qtd}
use Rattle.qh_qtd.specs.declared.queue_head.Qh.{Qh}
use Rattle.dev_control.specs.Stages.{is_read}
use Rattle.toggle_error.specs.declared.host.HostSide.{HostSide}
use Rattle.toggle_error.specs.Columns.{limit_of}
use Rattle.law_structures.specs.lent_structures.Structures.{Structures}
use Rattle.hc_copy.specs.Overlay.{buffer_place}
use Rattle.hc_copy.specs.Planning.{pid_at}
use Rattle.law_ring.specs.Effects.{bytes_in, buffer_of}
use Rattle.law_structures.specs.lent_structures.Sound.{HasBuffer, IsReady, IsWorking}
use Rattle.claims_report.specs.Requests.{Request}
use Rattle.law_request.specs.Host.{Endpoint, Stage, Setup, Data, Status, is_over, data_token, token_at, bytes_at, data_bytes}
use Rattle.law_request.specs.Windows.{IsRequest}
use Rattle.law_request.specs.Standing.{Sight, Moves, StandsAt}
use Rattle.law_devices.specs.ring_requests.Laid.{HasBytes}

-- ---- PID codes

pub in_code : (code : ℕ) → pid_at code ≡ pids.In → (code == 1) ≡ true
in_code code is =
    ⊎_elim (λ (same : code ≡ 1). eq-eqb code 1 same)
    (λ (differs : code ≢ 1). absurd (by (code == 0) (sym (ap (λ (b : Bool). if code == 0 then pids.Out else if b then pids.In else pids.Setup) (other_number code 1 differs)) ∙ is))) (cases_eq code 1)
  where
    by : (b : Bool) → (if b then pids.Out else pids.Setup) ≡ pids.In → ⊥
    by true e = cc
    by false e = cc

pub not_in_code : (code : ℕ) (p : Pid) → pid_at code ≡ p → p ≢ pids.In → (code == 1) ≡ false
not_in_code code p is other =
    ⊎_elim (λ (same : code ≡ 1). absurd (other (sym is ∙ ap pid_at same))) (λ (differs : code ≢ 1). other_number code 1 differs) (cases_eq code 1)

-- ---- lists

none_left : (side : HostSide) (xs : List ℕ) → side.left ≡ 0 → take (limit_of side) xs ≡ []
none_left side xs none = let z : limit_of side ≡ 0 = omega (arith, none) in ap (λ (n : ℕ). take n xs) z

nothing_out : (side : HostSide) (xs : List ℕ) (b : Bool) → side.left ≡ 0 → [] ≡ (if b then [] else take (limit_of side) xs)
nothing_out side xs true none = refl
nothing_out side xs false none = sym (none_left side xs none)

-- ---- the buffer

-- it has what is left, from the place on, or nothing is left
abbrev pub IsSized : Qh → Qtd → List ℕ → Type 0
IsSized q t bs = ((q.token.total ≤ length bs) × (buffer_place q - t.offset ≡ length bs - q.token.total)) ⊎ (q.token.total ≡ 0)

sized_by : (part : Structures) (q : Qh) (w : IsWorking part q) → IsReady part w.element → ((0 < q.token.total) ⊎ (q.token.total ≤ 0)) → IsSized q w.element (buffer_of part w.element)
sized_by part q w ready (inr none) = inr (omega (arith, none))
sized_by part q w ready (inl some) =
    let has : HasBuffer part w.element w.element.token.total = ready.buffer (let fewer = w.fewer in omega (arith, some, fewer)) in
    let size = ap length (ap bytes_in has.here) ∙ has.size in
    let fewer = w.fewer in
    let place = w.place in
    inl (omega (arith, size, fewer), omega (arith, size, fewer, place))

pub sized : (part : Structures) (q : Qh) (w : IsWorking part q) → IsReady part w.element → IsSized q w.element (buffer_of part w.element)
sized part q w ready = sized_by part q w ready (cases_lt 0 q.token.total)

-- ---- the bytes of a stage

module _ (e : Endpoint) (r : Request) (q : Qh) (part : Structures) (t : Qtd) (side : HostSide) (moved : List ℕ) (v : Sight) (left : v.left ≡ side.left) (moved_is : v.moved ≡ moved) (total : q.token.total ≡ side.left) (request : IsRequest r) (whole : 8 ≤ e.max) (packets : side.max ≡ e.max) (size : IsSized q t (buffer_of part t)) where
  abbrev source : List ℕ
  source = drop (buffer_place q - t.offset) (buffer_of part t)

  -- the bytes that go out with a token
  abbrev given_by : Bool → List ℕ
  given_by b = if b then [] else take (limit_of side) source

  setup_bytes : v.left ≡ 8 → buffer_of part t ≡ r.setup → take (limit_of side) source ≡ r.setup
  setup_bytes eight bytes = by size
    where
      by : IsSized q t (buffer_of part t) → take (limit_of side) source ≡ r.setup
      by (inr none) = absurd (omega (arith, none, total, left, eight))
      by (inl (few, place)) =
          let long = request.setup in
          let same = ap length bytes in
          let start : buffer_place q - t.offset ≡ 0 = omega (arith, place, total, left, eight, long, same) in
          let room : length r.setup ≤ limit_of side = omega (arith, long, left, eight, whole, packets) in
          ap (λ (n : ℕ). take (limit_of side) (drop n (buffer_of part t))) start ∙ ap (λ (xs : List ℕ). take (limit_of side) xs) bytes ∙ take_whole (limit_of side) r.setup room

  data_out : (rest : List ℕ) → v.moved ++ rest ≡ r.bytes → v.left ≡ length rest → buffer_of part t ≡ r.bytes → take (limit_of side) (drop (length moved) r.bytes) ≡ take (limit_of side) source
  data_out rest split counts bytes = by size
    where
      by : IsSized q t (buffer_of part t) → take (limit_of side) (drop (length moved) r.bytes) ≡ take (limit_of side) source
      by (inr none) = let z : side.left ≡ 0 = omega (arith, none, total) in none_left side (drop (length moved) r.bytes) z ∙ sym (none_left side source z)
      by (inl (few, place)) =
          let both = length-append v.moved rest in
          let all = ap length split in
          let same = ap length bytes in
          let here = ap length moved_is in
          let start : length moved ≡ buffer_place q - t.offset = omega (arith, place, total, left, counts, both, all, same, here) in
          ap (λ (n : ℕ). take (limit_of side) (drop n r.bytes)) start ∙ ap (λ (xs : List ℕ). take (limit_of side) (drop (buffer_place q - t.offset) xs)) (sym bytes)

  data_given : (read : Bool) → is_read r.setup ≡ read → pid_at q.token.pid ≡ data_token read → Moves read e r v → (is_read r.setup ≡ false → buffer_of part t ≡ r.bytes)
      → data_bytes read r (record { stage = Data; side = side; moved = moved }) ≡ given_by (q.token.pid == 1)
  data_given true is pid way bytes = sym (ap given_by (in_code q.token.pid pid))
  data_given false is pid way bytes = data_out way.later way.whole way.left (bytes is) ∙ sym (ap given_by (not_in_code q.token.pid pids.Out pid (λ e. cc)))

  pub stage_given : (s : Stage) → is_over s ≡ false → pid_at q.token.pid ≡ token_at r s → StandsAt e r s v → HasBytes r part s t → bytes_at r s (record { stage = s; side = side; moved = moved }) ≡ given_by (q.token.pid == 1)
  stage_given Setup going pid stands bytes = sym (ap given_by (not_in_code q.token.pid pids.Setup pid (λ e. cc)) ∙ setup_bytes stands.left (ap bytes_in bytes))
  stage_given Data going pid stands bytes =
      ap (λ (b : Bool). data_bytes b r (record { stage = Data; side = side; moved = moved })) refl
      ∙ data_given (is_read r.setup) refl pid stands.way (λ off. ap bytes_in (bytes off))
  stage_given Status going pid stands bytes = let none = stands.left in nothing_out side source (q.token.pid == 1) (sym left ∙ none)
  stage_given _ going pid stands bytes = absurd (false≢true (sym going))
