-- The words of a new siTD have the fields of its endpoint, as it is placed: all its bytes are left, in as many parts as they need (EHCI
-- 1.0, 3.4.2 to 3.4.4; USB 2.0, 11.18.4).
use Rattle.std.proofs.Common.{◌≡◌, ℕ, ◌*◌, ◌<◌, ◌≤◌, Bool, List, [], slice_index, refl, ap, sym, subst, ◌∙◌, arith, if◌then◌else◌}
use Rattle.usb_base.specs.declared.endpoints.EpDesc.{EpDesc}
use Rattle.usb_base.specs.declared.packets.Way.{Way}
use Rattle.usb_base.specs.declared.packets.Way.TheVariants as ways
use Rattle.word_mem.specs.Memory.{Mem}
use Rattle.word_mem.specs.Views.{words_at}
use Rattle.link_words.specs.Fields.{link_at}
use Rattle.itd_sitd.specs.declared.sitd.Sitd.{Sitd}
use Rattle.itd_sitd.specs.Sitd.{sitd_at, sitd_words, IsSitdInRange}
use Rattle.itd_sitd.proofs.SitdLaws.{sitd_read-words, sitd_read-is}
use Rattle.drv_periodic_table.specs.Periodic.{dir_of}
use Rattle.drv_periodic_table.specs.Descriptors.{is_in as goes_in, parts_of, part_position, new_sitd, sitd_in}
use Rattle.law_descriptors.specs.Written.{HasFields}
use Rattle.law_descriptors.proofs.Fields.{sitd_range}
use Rattle.law_microframes.specs.time.SitdParts.{is_in}
use Rattle.law_microframes.specs.time.SitdFields.{sitd_name, IsSitdAs}
use Rattle.law_microframes.proofs.lemmas.time.SitdWords.{AreWordsAs, list_as, as_list, as_address}

way_is : (way : Way) → goes_in way ≡ is_in (dir_of way)
way_is ways.In = refl
way_is ways.Out = refl
way_is ways.Ctl = refl

module _ (x : EpDesc) (smask cmask slot : ℕ) where
  -- with no buffer, which these words don't tell
  bare : Sitd
  bare = record (new_sitd x smask cmask slot []) { link = link_at 0 }

  bare_as : slot ≤ x.max → IsSitdAs (sitd_name x) smask cmask x.max
      (record (new_sitd x smask cmask slot []) { link = link_at 0 })
  bare_as few = record {
    way = way_is x.name.way;
    named = (refl, (refl, (refl, refl)));
    smask = refl;
    cmask = refl;
    prog = omega arith;
    parts = record {
      fits = λ on. few;
      count = λ on out. ap (λ (b : Bool). if b then 0 else parts_of slot) out;
      within = λ on out. omega (arith, few);
      position = λ on out. ap (λ (b : Bool). part_position (if b then 0 else parts_of slot)) out
          ∙ sym (ap (λ (b : Bool). part_position (if b then 0 else parts_of slot)) out);
    };
  }

  pub bare_range : HasFields x → smask < 256 → cmask < 256 → slot ≤ 1023
      → IsSitdInRange (record (new_sitd x smask cmask slot []) { link = link_at 0 })
  bare_range fits starts completes few = sitd_range x smask cmask slot [] 0 fits starts completes few (λ i. omega arith)

  bare_words : HasFields x → smask < 256 → cmask < 256 → slot ≤ 1023 → slot ≤ x.max
      → IsSitdAs (sitd_name x) smask cmask x.max
      (sitd_at (sitd_words (record (new_sitd x smask cmask slot []) { link = link_at 0 })))
  bare_words fits starts completes few most =
      subst (IsSitdAs (sitd_name x) smask cmask x.max)
      (sitd_read-is (sitd_words (record (new_sitd x smask cmask slot []) { link = link_at 0 }))
      (record (new_sitd x smask cmask slot []) { link = link_at 0 })
      (sitd_read-words (record (new_sitd x smask cmask slot []) { link = link_at 0 }) (bare_range fits starts completes few)))
      (bare_as most)

  -- words 1, 2, 3 and 5 are the same whatever buffer it has
  same_words : (runs : List ℕ) → let way = sitd_name x in
      let old = sitd_words (record (new_sitd x smask cmask slot []) { link = link_at 0 }) in
      let new = sitd_words (new_sitd x smask cmask slot runs) in
      AreWordsAs way smask cmask x.max (slice_index old 1) (slice_index old 2) (slice_index old 3) (slice_index old 5)
      → AreWordsAs way smask cmask x.max (slice_index new 1) (slice_index new 2) (slice_index new 3) (slice_index new 5)
  unfolding sitd_words
  same_words runs k = k

pub new_sitd_as : (x : EpDesc) (smask cmask slot b : ℕ) (runs : List ℕ) (m : Mem) → HasFields x → smask < 256 → cmask < 256 → slot ≤ 1023
    → slot ≤ x.max
    → words_at m (32 * b) 7 ≡ sitd_words (new_sitd x smask cmask slot runs)
    → IsSitdAs (sitd_name x) smask cmask x.max (sitd_in m b)
new_sitd_as x smask cmask slot b runs m fits starts completes few most words =
    let way = sitd_name x in
    let new = as_list way smask cmask x.max (sitd_words (new_sitd x smask cmask slot runs))
    (same_words x smask cmask slot runs (list_as way smask cmask x.max _ (bare_words x smask cmask slot fits starts completes few most))) in
    as_address way smask cmask x.max m b (subst (λ (ws : List ℕ). IsSitdAs way smask cmask x.max (sitd_at ws)) (sym words) new)
