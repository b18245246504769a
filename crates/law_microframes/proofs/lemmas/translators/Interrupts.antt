-- The start-split of an interrupt endpoint's queue head is one that the plan of its translator calls for (EHCI 1.0, 4.12.2; USB 2.0,
-- 11.18).
use Rattle.std.proofs.Common.{◌≡◌, ℕ, ◌<◌, ◌≤◌, Bool, true, false, List, length, refl, sym, ap, ◌∙◌, arith}
use Rattle.std.specs.Prelude.{◌==◌}
use Rattle.usb_base.specs.declared.packets.Ask.{Ask}
use Rattle.usb_base.specs.declared.packets.EpKind.{EpKind}
use Rattle.usb_base.specs.declared.packets.EpKind.TheVariants as kinds
use Rattle.usb_base.specs.declared.packets.Dir.{Dir}
use Rattle.usb_base.specs.declared.packets.Pid.{Pid}
use Rattle.usb_base.specs.declared.packets.Pid.TheVariants as pids
use Rattle.usb_base.specs.declared.packets.Speed.{Speed}
use Rattle.usb_base.specs.declared.packets.Speed.TheVariants as speeds
use Rattle.usb_base.specs.declared.packets.Split.{Split}
use Rattle.usb_base.specs.declared.packets.Split.TheVariants as splits
use Rattle.usb_base.specs.Cost.{byte_times}
use Rattle.hub_keys.specs.Asks.{counted_bytes}
use Rattle.hub_keys.specs.Keys.{key_of, direction_of}
use Rattle.hub_keys.specs.declared.key.Key.{Key}
use Rattle.bandwidth.specs.declared.placements.Placed.{Placed}
use Rattle.bandwidth.specs.Placements.{first_in, is_classic}
use Rattle.qh_qtd.specs.declared.queue_head.Qh.{Qh}
use Rattle.transactions.specs.Asks.{ask_of, sends, start_split}
use Rattle.hc_copy.specs.Planning.{pid_at, speed_at, queue_pipe, split_at}
use Rattle.hc_copy.specs.Transacting.{call_in}
use Rattle.hc_interrupt.specs.Turns.{planned}
use Rattle.claims_world.specs.Plans.{Plan}
use Rattle.law_translator.specs.Premises.{IsFirst}
use Rattle.claims_world.specs.HubPlans.{time_in}
use Rattle.law_microframes.proofs.lemmas.translators.Placing.{IsPlannedAs}

more_times : (s : Speed) (k : EpKind) (a b : ℕ) → a ≤ b → byte_times s k a ≤ byte_times s k b
more_times speeds.High k a b h = omega arith
more_times speeds.Low k a b h = omega arith
more_times speeds.Full kinds.Iso a b h = omega arith
more_times speeds.Full kinds.Control a b h = omega arith
more_times speeds.Full kinds.Bulk a b h = omega arith
more_times speeds.Full kinds.Interrupt a b h = omega arith

counted_most : (pid : Pid) (limit n most : ℕ) → limit ≤ most → n ≤ most → counted_bytes pid limit n ≤ most
counted_most pids.In limit n most a b = a
counted_most _ limit n most a b = b

sends_most : (split : Split) (pid : Pid) (out : List ℕ) → length (sends split pid out) ≤ length out
sends_most (splits.Complete hub port) pid out = omega arith
sends_most splits.Plain pids.In out = omega arith
sends_most splits.Plain pids.Ping out = omega arith
sends_most splits.Plain _ out = omega arith
sends_most (splits.Start hub port part) pids.In out = omega arith
sends_most (splits.Start hub port part) pids.Ping out = omega arith
sends_most (splits.Start hub port part) _ out = omega arith

not_classic : (s : Speed) → is_classic s ≡ true → s ≡ speeds.High → ⊥
not_classic s classic is = let e : is_classic speeds.High ≡ true = ap is_classic (sym is) ∙ classic in cc

-- below high speed, not in Do-Complete
pub record StartsNow (x : Placed) (k : Key) (q : Qh) : Type 0 where
  pub classic : is_classic x.want.speed ≡ true
  pub kind : x.want.kind ≡ kinds.Interrupt
  pub speed : speed_at q.eps ≡ x.want.speed
  pub low : (q.eps == 2) ≡ false
  pub max : q.max ≡ x.want.max
  pub first : q.token.split_state ≡ false
  pub addr : q.addr ≡ k.addr
  pub ep : q.ep ≡ k.ep
  pub dir : direction_of (pid_at q.token.pid) ≡ k.dir
  pub of_kind : k.kind ≡ kinds.Interrupt

make : ℕ → ℕ → Dir → EpKind → Key
make addr ep dir kind = record { addr = addr; ep = ep; dir = dir; kind = kind }

made : (a : Key) → make a.addr a.ep a.dir a.kind ≡ a
unfolding make
made a = refl

module _ (x : Placed) (k : Key) (q : Qh) (s : StartsNow x k q) where
  its_split : (planned q).split ≡ start_split (queue_pipe kinds.Interrupt q)
  its_split =
      ap (λ (b : Bool). split_at b q.token.split_state (queue_pipe kinds.Interrupt q)) s.low
      ∙ ap (λ (b : Bool). split_at false b (queue_pipe kinds.Interrupt q)) s.first

  abbrev Asked : List ℕ → Bool → Ask
  Asked out last = (call_in (planned q) out last).ask

  its_pid : (out : List ℕ) (last : Bool) → (Asked out last).pid ≡ pid_at q.token.pid
  its_pid out last = ap (λ (sp : Split). (ask_of sp (planned q).pipe (planned q).host).pid) its_split

  pub its_key : (out : List ℕ) (last : Bool) → key_of (Asked out last) ≡ k
  unfolding make
  its_key out last =
      ap (λ (d : Dir). make q.addr q.ep d kinds.Interrupt) (ap direction_of (its_pid out last) ∙ s.dir)
      ∙ ap (λ (n : ℕ). make n q.ep k.dir kinds.Interrupt) s.addr ∙ ap (λ (n : ℕ). make k.addr n k.dir kinds.Interrupt) s.ep
      ∙ ap (λ (i : EpKind). make k.addr k.ep k.dir i) (sym s.of_kind) ∙ made k

  pub is_first : (p : Plan) (now : ℕ) (out : List ℕ) (last : Bool) → IsPlannedAs p k x → now < 8 → now ≡ first_in x.placement.smask
      → length out ≤ q.max → IsFirst p now (Asked out last) (length (call_in (planned q) out last).out)
  is_first p now out last planned_so small on_time few =
      let ask : Ask = Asked out last in
      let key = its_key out last in
      let sent = sends_most ask.split ask.pid out in
      let limit : ask.limit ≤ q.max = omega arith in
      let counted : counted_bytes ask.pid ask.limit (length (call_in (planned q) out last).out) ≤ q.max =
      counted_most ask.pid ask.limit _ q.max limit (omega (arith, sent, few)) in
      let most : byte_times ask.speed kinds.Interrupt (counted_bytes ask.pid ask.limit (length (call_in (planned q) out last).out))
      ≤ byte_times ask.speed kinds.Interrupt q.max = more_times ask.speed kinds.Interrupt _ _ counted in
      let times : byte_times ask.speed kinds.Interrupt q.max ≡ time_in x.want =
      ap (λ (v : Speed). byte_times v kinds.Interrupt q.max) s.speed ∙ ap (λ (n : ℕ). byte_times x.want.speed kinds.Interrupt n) s.max
      ∙ ap (λ (i : EpKind). byte_times x.want.speed i x.want.max) (sym s.kind) in
      let all : p.times (key_of ask) ≡ time_in x.want = ap p.times key ∙ planned_so.times in
      record {
        placed = rw key planned_so.there;
        on_time = on_time ∙ sym (ap p.first key ∙ planned_so.first);
        within = small;
        classic = λ high. not_classic x.want.speed s.classic (sym s.speed ∙ high);
        part = omega (arith, most, times, all);
      }
