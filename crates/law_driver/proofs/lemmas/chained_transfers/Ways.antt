-- The transfers of a bulk endpoint and their qTDs, by the way of its data.
use Rattle.std.proofs.Common.{◌≡◌, ℕ, zero, suc, ◌+◌, ◌-◌, ◌*◌, ◌≤◌, ◌⊎◌, inl, inr, true, false, nat_le, min, max, List, [], ◌∷◌, length, map, ap, sym, subst, ◌∙◌, refl, arith}
use Rattle.std.proofs.lemmas.Bool.{false≢true}
use Rattle.std.specs.List.{AllByRecursion, range_with_len}
use Rattle.law_driver.proofs.Common.{out_way, in_way}
use Rattle.usb_base.specs.declared.packets.Way.{Way}
use Rattle.usb_base.specs.declared.packets.Way.TheVariants as ways
use Rattle.word_mem.specs.Memory.{Mem}
use Rattle.drv_table.specs.declared.content.Transfer.{Transfer}
use Rattle.drv_table.specs.declared.content.Sort.{Sort}
use Rattle.drv_table.specs.declared.content.Sort.TheVariants as sorts
use Rattle.drv_table.specs.declared.content.Stage.{Stage}
use Rattle.drv_table.specs.DriverContent.{DriverContent, is_same_way}
use Rattle.drv_table.specs.Words.{pieces, cut, in_stage, out_stage, get_stages, put_stages}
use Rattle.drv_table.specs.Harvests.{note_at, token_in, found_in}
use Rattle.drv_table.specs.Harvesting.{found_of}
use Rattle.drv_table.specs.Accepting.{Offered}
use Rattle.drv_table.specs.Offers.{Asked}
use Rattle.claims_driver.specs.Owners.{is_descriptor}
use Rattle.law_driver.specs.run_owners.Accepts.{AreShort}
use Rattle.law_driver.specs.chained_transfers.Bulk.{IsDataWay, sort_by, stage_by, pid_by, MovesAs}
use Rattle.claims_driver.specs.Scripts.{receives, comes_in}
use Rattle.law_driver.specs.chained_transfers.Accepted.{IsAsked}

-- ---- a way, and the transfers that go it

pub sort_queued : (way : Way) → is_descriptor (sort_by way) ≡ false
sort_queued ways.In = refl
sort_queued _ = refl

pub data_or_control : (way : Way) → IsDataWay way ⊎ (way ≡ ways.Ctl)
data_or_control ways.Ctl = inr refl
data_or_control _ = inl tt

pub way_receives : (way : Way) → receives way ≡ true → IsDataWay way → way ≡ ways.In
way_receives ways.In is one = refl
way_receives ways.Out is one = absurd (false≢true is)
way_receives ways.Ctl is one = absurd one

-- where data go one way, an endpoint is an IN or an OUT endpoint
pub data_comes_in : (way : Way) → IsDataWay way → comes_in way ≡ receives way
data_comes_in ways.Ctl one = absurd one
data_comes_in _ one = refl

pub way_goes_out : (way : Way) → IsDataWay way → comes_in way ≡ false → way ≡ ways.Out
way_goes_out way one is = out_way way (sym (data_comes_in way one) ∙ is)

pub comes_in_receives : (way : Way) → comes_in way ≡ true → receives way ≡ true
comes_in_receives way is = ap receives (in_way way is)

pub sends_comes_not : (way : Way) → receives way ≡ false → comes_in way ≡ false
sends_comes_not way is = ap comes_in (out_way way is)

pub receives_pid : (way : Way) → receives way ≡ true → IsDataWay way → pid_by way ≡ 1
receives_pid way is one = ap pid_by (way_receives way is one)

pub receives_sort : (way : Way) → receives way ≡ true → IsDataWay way → sort_by way ≡ sorts.Get
receives_sort way is one = ap sort_by (way_receives way is one)

pub sends_pid : (way : Way) → receives way ≡ false → pid_by way ≡ 0
sends_pid way is = ap pid_by (out_way way is)

pub sends_sort : (way : Way) → receives way ≡ false → sort_by way ≡ sorts.Put
sends_sort way is = ap sort_by (out_way way is)

-- a get or a put is taken by an endpoint of its way
pub same_in : (way : Way) → is_same_way way ways.In ≡ true → way ≡ ways.In
same_in ways.In is = refl
same_in _ is = absurd (false≢true is)

pub same_out : (way : Way) → is_same_way way ways.Out ≡ true → way ≡ ways.Out
same_out ways.Out is = refl
same_out _ is = absurd (false≢true is)

-- ---- qTDs

pub stage_long : (way : Way) (n : ℕ) → (stage_by way n).long ≡ n
stage_long ways.In n = refl
stage_long _ n = refl

pub stage_told : (way : Way) (n : ℕ) → (stage_by way n).told ≡ n
stage_told ways.In n = refl
stage_told _ n = refl

pub stage_toggle : (way : Way) (n : ℕ) → (stage_by way n).toggle ≡ false
stage_toggle ways.In n = refl
stage_toggle _ n = refl

pub stage_pid : (way : Way) (n : ℕ) → IsDataWay way → (stage_by way n).pid ≡ pid_by way
stage_pid ways.Ctl n one = absurd one
stage_pid _ n one = refl

stage_pid_few : (way : Way) (n : ℕ) → (stage_by way n).pid ≤ 2
stage_pid_few ways.In n = omega arith
stage_pid_few _ n = omega arith

pub stage_in : (way : Way) (n : ℕ) → receives way ≡ true → stage_by way n ≡ in_stage n
stage_in ways.Out n is = absurd (false≢true is)
stage_in _ n is = refl

pub stage_out : (way : Way) (n : ℕ) → receives way ≡ false → stage_by way n ≡ out_stage n
stage_out way n is = ap (λ (w : Way). stage_by w n) (out_way way is)

-- the qTD of the stage is one of this way
abbrev pub IsBy : Way → Stage → Type 0
IsBy way s = s ≡ stage_by way s.long

pub stage_is : (way : Way) (n : ℕ) → IsBy way (stage_by way n)
stage_is way n = ap (stage_by way) (sym (stage_long way n))

pub its_told : (way : Way) (s : Stage) → IsBy way s → s.told ≡ s.long
its_told way s is = ap (λ (z : Stage). z.told) is ∙ stage_told way s.long

pub its_toggle : (way : Way) (s : Stage) → IsBy way s → s.toggle ≡ false
its_toggle way s is = ap (λ (z : Stage). z.toggle) is ∙ stage_toggle way s.long

pub its_pid : (way : Way) (s : Stage) → IsDataWay way → IsBy way s → s.pid ≡ pid_by way
its_pid way s one is = ap (λ (z : Stage). z.pid) is ∙ stage_pid way s.long one

pub its_pid_few : (way : Way) (s : Stage) → IsBy way s → s.pid ≤ 2
its_pid_few way s is = let p = ap (λ (z : Stage). z.pid) is in let few = stage_pid_few way s.long in omega (arith, p, few)

-- ---- all qTDs of a transfer

pub stages_all : (P : Stage → Type 0) (way : Way) (ns : List ℕ) → ((n : ℕ) → P (stage_by way n)) → AllByRecursion P (map (stage_by way) ns)
stages_all P way [] each = tt
stages_all P way (n ∷ ns) each = (each n, stages_all P way ns each)

pub all_of_all : (P Q : Stage → Type 0) (ss : List Stage) → ((s : Stage) → P s → Q s) → AllByRecursion P ss → AllByRecursion Q ss
all_of_all P Q [] each all = tt
all_of_all P Q (s ∷ ss) each all = (each s all.0, all_of_all P Q ss each all.1)

pub stages_by : (way : Way) (most by : ℕ) → AllByRecursion (IsBy way) (map (stage_by way) (cut most by))
stages_by way most by = stages_all (IsBy way) way (cut most by) (stage_is way)

pub stages_pid_few : (way : Way) (most by : ℕ) → AllByRecursion (λ (s : Stage). s.pid ≤ 2) (map (stage_by way) (cut most by))
stages_pid_few way most by = all_of_all (IsBy way) (λ (s : Stage). s.pid ≤ 2) (map (stage_by way) (cut most by)) (its_pid_few way) (stages_by way most by)

cuts_short : (way : Way) (g : ℕ → ℕ) (xs : List ℕ) → ((n : ℕ) → g n ≤ 20480) → AreShort (map (stage_by way) (map g xs))
cuts_short way g [] each = tt
cuts_short way g (x ∷ xs) each = (let l = stage_long way (g x) in let few = each x in omega (arith, l, few), cuts_short way g xs each)

cuts_many : (way : Way) (g : ℕ → ℕ) (from n : ℕ) → length (map (stage_by way) (map g (range_with_len from n))) ≡ n
cuts_many way g from zero = refl
cuts_many way g from (suc n) = ap suc (cuts_many way g (from + 1) n)

pub stages_short : (way : Way) (most by : ℕ) → most ≤ 20480 → AreShort (map (stage_by way) (cut most by))
stages_short way most by few = cuts_short way (λ k. min by (most - k * by)) (range_with_len 0 (max 1 (pieces most by))) (λ n. omega (arith, few))

pub stages_many : (way : Way) (most by : ℕ) → length (map (stage_by way) (cut most by)) ≡ max 1 (pieces most by)
stages_many way most by = cuts_many way (λ k. min by (most - k * by)) 0 (max 1 (pieces most by))

pub stages_some : (way : Way) (most by : ℕ) → 1 ≤ length (map (stage_by way) (cut most by))
stages_some way most by = let m = stages_many way most by in omega (arith, m)

pub gets_by : (most by : ℕ) → get_stages most by ≡ map (stage_by ways.In) (cut most by)
gets_by most by = refl

pub puts_by : (most by : ℕ) → put_stages most by ≡ map (stage_by ways.Out) (cut most by)
puts_by most by = refl

-- ---- transfers of a driver

pub moves_queued : (d : DriverContent) (y : Transfer) → MovesAs d y → is_descriptor y.sort ≡ false
moves_queued d y moves = ap is_descriptor moves.sort ∙ sort_queued moves.endpoint.desc.name.way

-- what is found of it
pub found_by : (d : DriverContent) (m : Mem) (y : Transfer) (sort : Sort) → is_descriptor sort ≡ false → found_of d m y sort ≡ found_in sort (nat_le y.left 1) (note_at d.notes y.place) (token_in m y.place)
found_by d m y sorts.Descriptor is = absurd (false≢true (sym is))
found_by d m y _ is = refl

-- the qTDs of a get or put that was asked for
pub asked_by : (d : DriverContent) (m : Mem) (o : Offered) (w : IsAsked d m o) → AllByRecursion (IsBy w.transfers.endpoint.desc.name.way) w.transfers.asked.stages
asked_by d m o w =
    let way = w.transfers.endpoint.desc.name.way in
    subst (λ (a : Asked). AllByRecursion (IsBy way) a.stages) (sym w.asked) (stages_by way w.most w.by)

pub asked_pids : (d : DriverContent) (m : Mem) (o : Offered) (w : IsAsked d m o) → AllByRecursion (λ (s : Stage). s.pid ≤ 2) w.transfers.asked.stages
asked_pids d m o w = all_of_all (IsBy w.transfers.endpoint.desc.name.way) (λ (s : Stage). s.pid ≤ 2) w.transfers.asked.stages (its_pid_few w.transfers.endpoint.desc.name.way) (asked_by d m o w)
