-- The start-split of a siTD is one that the plan of its translator calls for (EHCI 1.0, 3.4 and 4.12.3; USB 2.0, 11.18.4).
use Rattle.std.proofs.Common.{◌≡◌, ℕ, ◌+◌, ◌-◌, ◌*◌, ◌<◌, ◌≤◌, min, Bool, true, false, List, Option, Some, None, refl, sym, ap, subst, ◌∙◌, arith, if◌then◌else◌}
use Rattle.std.specs.Prelude.{◌==◌, ◌&&◌, not, nat_le}
use Rattle.std.specs.List.{find}
use Rattle.std.proofs.lemmas.Bool.{true≢false}
use Rattle.std.proofs.lemmas.Bool.Decides.{nat_tests}
use Rattle.law_microframes.proofs.Common.{out_dir as out_way}
use Rattle.usb_base.specs.Cost.{byte_times}
use Rattle.usb_base.specs.declared.endpoints.EpDesc.{EpDesc}
use Rattle.usb_base.specs.declared.packets.Ask.{Ask}
use Rattle.usb_base.specs.declared.packets.DataPart.{DataPart}
use Rattle.usb_base.specs.declared.packets.DataPart.TheVariants as parts
use Rattle.usb_base.specs.declared.packets.Dir.{Dir}
use Rattle.usb_base.specs.declared.packets.Dir.TheVariants as dirs
use Rattle.usb_base.specs.declared.packets.EpKind.{EpKind}
use Rattle.usb_base.specs.declared.packets.EpKind.TheVariants as kinds
use Rattle.usb_base.specs.declared.packets.Pid.TheVariants as pids
use Rattle.usb_base.specs.declared.packets.Speed.{Speed}
use Rattle.usb_base.specs.declared.packets.Speed.TheVariants as speeds
use Rattle.usb_base.specs.declared.packets.Split.TheVariants as splits
use Rattle.itd_sitd.specs.declared.sitd.Sitd.{Sitd}
use Rattle.hub_keys.specs.Keys.{key_of}
use Rattle.hub_keys.specs.declared.key.Key.{Key}
use Rattle.tt_pipeline.specs.declared.entry.Entry.{Entry}
use Rattle.tt_pipeline.specs.declared.rows.StartRow.TheVariants.{Joins, Forgotten}
use Rattle.tt_pipeline.specs.Starting.{has_key, later_row, row_of_part}
use Rattle.tt_pipeline.specs.Work.{asked_part}
use Rattle.hc_masks.specs.Masks.{has as has_bit, is_first, lacks}
use Rattle.hc_iso.specs.declared.held.SitdTurn.TheVariants.{Work}
use Rattle.hc_iso.specs.Sitd.{sitd_missed, in_comes, out_comes, comes, sitd_turn, sent_part, part_bytes, sitd_ask, sitd_with, sitd_out, sitd_transaction}
use Rattle.bandwidth.specs.declared.placements.Placement.{Placement}
use Rattle.bandwidth.specs.Placements.{has, first_in, is_classic}
use Rattle.drv_periodic_table.specs.Descriptors.{parts_of}
use Rattle.drv_periodic_table.specs.Periodic.{dir_of}
use Rattle.claims_world.specs.FrameHeads.{IsAllowed}
use Rattle.law_budgets.specs.visit_prices.Spent.{placed_as}
use Rattle.claims_world.specs.Plans.{Plan}
use Rattle.law_translator.specs.Premises.{FirstPart, IsFirst, LaterPart, IsLater, LaterOf, FollowsRow, Follows}
use Rattle.law_microframes.specs.time.SitdFields.{sitd_name, IsSitdAs}
use Rattle.law_microframes.specs.time.SitdParts.{marks, position_of, is_in}
use Rattle.law_microframes.specs.time.SplitMasks.{HasSplitMasks}
use Rattle.law_microframes.specs.translators.Keeping.{key_for}
use Rattle.law_microframes.proofs.lemmas.time.SitdParts.{works, so_in, so_out, parts_behind, first_here}
use Rattle.law_microframes.proofs.lemmas.translators.Hands.{first_follows}
use Rattle.law_microframes.proofs.lemmas.translators.Placing.{IsPlannedAs, IsOneBit, only_first}

-- ---- small facts

full_times : (s : Speed) (n most : ℕ) → is_classic s ≡ true → n ≤ most → n + 9 ≤ byte_times s kinds.Iso most
full_times speeds.High n most is h = absurd (true≢false (sym is))
full_times speeds.Full n most is h = omega (arith, h)
full_times speeds.Low n most is h = omega (arith, h)

in_way : (d : Dir) → is_in d ≡ true → d ≡ dirs.In
in_way dirs.In is = refl
in_way dirs.Out is = absurd (true≢false (sym is))

not_high : speeds.Full ≡ speeds.High → ⊥
not_high e = cc

-- more than one part has a whole one
whole_part : (total count : ℕ) → count ≡ parts_of total → nat_le count 1 ≡ false → min 188 total ≡ 188
whole_part total count is more = let m : 2 ≤ count = two count more in omega (arith, is, m)
  where
    two : (n : ℕ) → nat_le n 1 ≡ false → 2 ≤ n
    two n h = grind (arith, nat_tests)

last_fits : (total marked u s first most times : ℕ) → total + 188 * marked ≤ most → u - s ≤ marked → first ≡ s → most + 9 ≤ times
    → 188 * (u - first) + (min 188 total + 9) ≤ times
last_fits total marked u s first most times within late same all = omega (arith, within, late, same, all)

whole_fits : (total marked u s first most times : ℕ) → total + 188 * marked ≤ most → u - s ≤ marked → first ≡ s → min 188 total ≡ 188
    → most + 9 ≤ times → 188 * (u - first) + 188 ≤ times
whole_fits total marked u s first most times within late same whole all = omega (arith, within, late, same, whole, all)

-- ---- by the part

follows_by : (part : DataPart) (p : Plan) (now : ℕ) (ask : Ask) (n : ℕ) (es : List Entry) → asked_part ask ≡ part
    → FollowsRow (row_of_part part (key_of ask) n es) p now ask n es → Follows p now ask n es
follows_by part p now ask n es is follows =
    subst (λ (z : DataPart). FollowsRow (row_of_part z (key_of ask) n es) p now ask n es) (sym is) follows

later_follows : (p : Plan) (now : ℕ) (ask : Ask) (n : ℕ) (es : List Entry) (o : Option Entry) → find (has_key (key_of ask)) es ≡ o
    → ((e : Entry) → o ≡ Some e → IsLater p now ask n e) → FollowsRow (later_row n o) p now ask n es
later_follows p now ask n es None found later = tt
later_follows p now ask n es (Some e) found later = by (nat_le (e.came.bytes + n) 1024)
  where
    by : (b : Bool) → FollowsRow (if b then Joins else Forgotten) p now ask n es
    by true = subst (LaterOf p now ask n) (sym found) (later e refl)
    by false = tt

-- ---- a siTD

make : ℕ → ℕ → Dir → EpKind → Key
make addr ep dir kind = record { addr = addr; ep = ep; dir = dir; kind = kind }

abbrev pub in_ask : Sitd → Ask
in_ask v = sitd_ask v (splits.Start v.hub v.port parts.All) pids.In

abbrev pub out_ask : Sitd → Ask
out_ask v = sitd_ask v (splits.Start v.hub v.port (sent_part v.tp)) pids.Out

pub in_transaction : (v : Sitd) → v.dir_in ≡ true → v.split_state ≡ false → sitd_transaction v ≡ sitd_with (in_ask v) dirs.In 0 0
in_transaction v way first = rw (way, first) refl

pub out_transaction : (v : Sitd) → v.dir_in ≡ false → sitd_transaction v ≡ sitd_out v
out_transaction v way = rw way refl

module _ (e : ℕ) (x : EpDesc) (p : Placement) (v : Sitd) (has_fields : IsSitdAs (sitd_name x) p.smask p.cmask x.max v)
    (classic : is_classic x.speed ≡ true) (iso : x.kind ≡ kinds.Iso) (allowed : IsAllowed (placed_as e x p)) (masks : HasSplitMasks p)
    (u : ℕ) (small : u < 8) (work : sitd_turn u v ≡ Work) (plan : Plan) (planned : IsPlannedAs plan (key_for x) (placed_as e x p)) where
  does : (v.active ≡ true) × (sitd_missed u v ≡ false) × (comes u v ≡ true)
  does = works v.active (sitd_missed u v) (comes u v) work

  times : (n : ℕ) → n ≤ x.max → n + 9 ≤ plan.times (key_for x)
  times n few =
      let t = full_times x.speed n x.max classic few in
      let is : plan.times (key_for x) ≡ byte_times x.speed kinds.Iso x.max =
      planned.times ∙ ap (λ (k : EpKind). byte_times x.speed k x.max) iso in
      omega (arith, t, is)

  same_key : (d : Dir) → d ≡ dir_of x.name.way → make v.addr v.ep d kinds.Iso ≡ key_for x
  unfolding make
  same_key d way =
      ap (λ (n : ℕ). make n v.ep d kinds.Iso) has_fields.named.0 ∙ ap (λ (n : ℕ). make x.name.addr n d kinds.Iso) has_fields.named.1.0
      ∙ ap (λ (z : Dir). make x.name.addr x.name.num z kinds.Iso) way ∙ ap (make x.name.addr x.name.num (dir_of x.name.way)) (sym iso)

  -- ---- an IN

  module _ (way : v.dir_in ≡ true) (first : v.split_state ≡ false) where
    in_dir : dirs.In ≡ dir_of x.name.way
    in_dir = sym (in_way (dir_of x.name.way) (sym has_fields.way ∙ way))

    pub in_key : key_of (in_ask v) ≡ key_for x
    unfolding make
    in_key = same_key dirs.In in_dir

    in_on_time : u ≡ first_in p.smask
    in_on_time =
        let on = so_out v.split_state (has_bit v.cmask u) (has_bit v.smask u) first
        (so_in v.dir_in (in_comes u v) (out_comes u v) way does.2) in
        only_first (placed_as e x p).want classic
        (subst (λ (k : EpKind). IsOneBit k (dir_of x.name.way)) (sym iso)
        (subst (IsOneBit kinds.Iso) in_dir tt)) allowed.place p allowed.at u
        small (subst (λ (mask : ℕ). has mask u ≡ true) has_fields.smask on)

    in_first : IsFirst plan u (in_ask v) 0
    in_first =
        let t = times v.total (has_fields.parts.fits does.0) in
        let k : plan.times (key_of (in_ask v)) ≡ plan.times (key_for x) = ap plan.times in_key in
        record {
          placed = rw in_key planned.there;
          on_time = in_on_time ∙ sym (ap plan.first in_key ∙ planned.first);
          within = small;
          classic = not_high;
          part = omega (arith, t, k);
        }

    pub in_follows : (es : List Entry) → Follows plan u (in_ask v) 0 es
    in_follows es = first_follows (key_of (in_ask v)) es plan u (in_ask v) 0 in_first

  -- ---- an OUT

  module _ (way : v.dir_in ≡ false) where
    out_dir : dirs.Out ≡ dir_of x.name.way
    out_dir = sym (out_way (dir_of x.name.way) (sym has_fields.way ∙ way))

    pub out_key : key_of (out_ask v) ≡ key_for x
    unfolding make
    out_key = same_key dirs.Out out_dir

    fits : v.total ≤ x.max
    fits = has_fields.parts.fits does.0

    at_part : v.tp ≡ position_of (v.c_prog == 0) v.t_count
    at_part = has_fields.parts.position does.0 way

    behind : (has_bit v.smask u ≡ true) × (u - first_in v.smask ≤ marks v.c_prog)
    behind =
        parts_behind v.smask v.c_prog u (v.c_prog == 0)
        (λ i from less own. subst (λ (mask : ℕ). has mask i ≡ true) (sym has_fields.smask)
        (masks.whole i u (subst (λ (mask : ℕ). first_in mask ≤ i) has_fields.smask from) less small
        (subst (λ (mask : ℕ). has mask u ≡ true) has_fields.smask own)))
        small
        (subst (λ (b : Bool). ((if b then v.split_state else not (v.c_prog == 0)) && lacks
        (if b then v.cmask else v.smask) v.c_prog u) ≡ false)
        way does.1)
        (so_out v.dir_in (in_comes u v) (out_comes u v) way does.2)

    its_times : plan.times (key_of (out_ask v)) ≡ plan.times (key_for x)
    its_times = ap plan.times out_key

    its_first : plan.first (key_of (out_ask v)) ≡ first_in v.smask
    its_first = ap plan.first out_key ∙ planned.first ∙ ap first_in (sym has_fields.smask)

    -- the first part

    module _ (none : (v.c_prog == 0) ≡ true) where
      out_on_time : u ≡ first_in v.smask
      out_on_time =
          (first_here v.smask u small (so_in (v.c_prog == 0) (is_first v.smask u) (has_bit v.smask u) none
          (so_out v.dir_in (in_comes u v) (out_comes u v) way does.2))).1

      out_first : FirstPart (asked_part (out_ask v)) plan (key_of (out_ask v)) (out_ask v) (part_bytes v)
          → IsFirst plan u (out_ask v) (part_bytes v)
      out_first part = record {
        placed = rw out_key planned.there;
        on_time = out_on_time ∙ sym its_first;
        within = small;
        classic = not_high;
        part = part;
      }

      first_position : (last : Bool) → nat_le v.t_count 1 ≡ last → v.tp ≡ (if last then 0 else 1)
      first_position last is = at_part ∙ ap (λ (b : Bool). position_of b v.t_count) none ∙ ap (λ (b : Bool). if b then 0 else 1) is

      first_by : (last : Bool) → nat_le v.t_count 1 ≡ last → (es : List Entry) → Follows plan u (out_ask v) (part_bytes v) es
      first_by true is es =
          let part : asked_part (out_ask v) ≡ parts.All = ap sent_part (first_position true is) in
          let t = times (part_bytes v) (let f = fits in omega (arith, f)) in
          let k = its_times in
          follows_by parts.All plan u (out_ask v) (part_bytes v) es part
          (first_follows (key_of (out_ask v)) es plan u (out_ask v) (part_bytes v)
          (out_first (subst (λ (z : DataPart). FirstPart z plan (key_of (out_ask v)) (out_ask v) (part_bytes v)) (sym part)
          (omega (arith, t, k)))))
      first_by false is es =
          let part : asked_part (out_ask v) ≡ parts.Begin = ap sent_part (first_position false is) in
          let whole = whole_part v.total v.t_count (has_fields.parts.count does.0 way) is in
          let t = times v.total fits in
          let k = its_times in
          follows_by parts.Begin plan u (out_ask v) (part_bytes v) es part
          (first_follows (key_of (out_ask v)) es plan u (out_ask v) (part_bytes v)
          (out_first (subst (λ (z : DataPart). FirstPart z plan (key_of (out_ask v)) (out_ask v) (part_bytes v)) (sym part)
          (refl, whole, omega (arith, t, k, whole)))))

    -- a later one

    module _ (some : (v.c_prog == 0) ≡ false) (es : List Entry)
        (lacks_it : (n : Entry) → find (has_key (key_of (out_ask v))) es ≡ Some n → (n.came.whole ≡ false) × (n.came ≡ n.before)) where
      later_position : (last : Bool) → nat_le v.t_count 1 ≡ last → v.tp ≡ (if last then 3 else 2)
      later_position last is = at_part ∙ ap (λ (b : Bool). position_of b v.t_count) some ∙ ap (λ (b : Bool). if b then 3 else 2) is

      is_later : (part : DataPart) → asked_part (out_ask v) ≡ part → LaterPart part plan u (key_of (out_ask v)) (part_bytes v)
          → (n : Entry) → find (has_key (key_of (out_ask v))) es ≡ Some n → IsLater plan u (out_ask v) (part_bytes v) n
      is_later part is may n found =
          let l = lacks_it n found in
          record {
            lacks = l.0;
            one = l.1;
            within = small;
            part = subst (λ (z : DataPart). LaterPart z plan u (key_of (out_ask v)) (part_bytes v)) (sym is) may;
          }

      later_by : (last : Bool) → nat_le v.t_count 1 ≡ last → Follows plan u (out_ask v) (part_bytes v) es
      later_by true is =
          let part : asked_part (out_ask v) ≡ parts.End = ap sent_part (later_position true is) in
          let within = has_fields.parts.within does.0 way in
          let late = behind.1 in
          let f = its_first in
          let k = its_times in
          let most = full_times x.speed x.max x.max classic (omega arith) in
          let all : plan.times (key_for x) ≡ byte_times x.speed kinds.Iso x.max =
          planned.times ∙ ap (λ (i : EpKind). byte_times x.speed i x.max) iso in
          follows_by parts.End plan u (out_ask v) (part_bytes v) es part
          (later_follows plan u (out_ask v) (part_bytes v) es (find (has_key (key_of (out_ask v))) es) refl
          (is_later parts.End part (last_fits v.total (marks v.c_prog) u (first_in v.smask) (plan.first (key_of (out_ask v))) x.max
          (plan.times (key_of (out_ask v))) within late f (omega (arith, k, all, most)))))
      later_by false is =
          let part : asked_part (out_ask v) ≡ parts.Middle = ap sent_part (later_position false is) in
          let whole = whole_part v.total v.t_count (has_fields.parts.count does.0 way) is in
          let within = has_fields.parts.within does.0 way in
          let late = behind.1 in
          let f = its_first in
          let k = its_times in
          let most = full_times x.speed x.max x.max classic (omega arith) in
          let all : plan.times (key_for x) ≡ byte_times x.speed kinds.Iso x.max =
          planned.times ∙ ap (λ (i : EpKind). byte_times x.speed i x.max) iso in
          follows_by parts.Middle plan u (out_ask v) (part_bytes v) es part
          (later_follows plan u (out_ask v) (part_bytes v) es (find (has_key (key_of (out_ask v))) es) refl
          (is_later parts.Middle part (
            whole,
            whole_fits v.total (marks v.c_prog) u (first_in v.smask) (plan.first (key_of (out_ask v))) x.max
                (plan.times (key_of (out_ask v))) within late f whole (omega (arith, k, all, most)),
          )))

    pub out_follows : (es : List Entry)
        → ((v.c_prog == 0) ≡ false → (n : Entry) → find (has_key (key_of (out_ask v))) es ≡ Some n
        → (n.came.whole ≡ false) × (n.came ≡ n.before)) → Follows plan u (out_ask v) (part_bytes v) es
    out_follows es lacks_it = by (v.c_prog == 0) refl
      where
        by : (b : Bool) → (v.c_prog == 0) ≡ b → Follows plan u (out_ask v) (part_bytes v) es
        by true none = first_by none (nat_le v.t_count 1) refl es
        by false some = later_by some es (lacks_it some) (nat_le v.t_count 1) refl
