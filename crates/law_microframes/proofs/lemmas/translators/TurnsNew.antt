-- Of a siTD that has no frame yet no part was sent: its words are those that were written for it (EHCI 1.0, 3.4.3 and 4.6).
use Rattle.std.proofs.Common.{◌≡◌, ℕ, zero, suc, ◌+◌, ◌-◌, ◌*◌, ◌<◌, ◌≤◌, Bool, true, false, List, [], drop, length, slice_get, slice_index, Option, Some, None, refl, ap, sym, subst, ◌∙◌, arith, if◌then◌else◌}
use Rattle.std.specs.Prelude.{◌==◌}
use Rattle.std.proofs.lemmas.Bool.{true≢false}
use Rattle.std.proofs.lemmas.Option.{slice_get_within}
use Rattle.usb_base.specs.declared.endpoints.EpDesc.{EpDesc}
use Rattle.word_mem.specs.Memory.{Mem}
use Rattle.word_mem.specs.Views.{words_at}
use Rattle.word_mem.proofs.Words.{get_or-words_in}
use Rattle.link_words.specs.Fields.{link_at}
use Rattle.link_words.specs.Layout.{bits}
use Rattle.itd_sitd.specs.declared.sitd.Sitd.{Sitd}
use Rattle.itd_sitd.specs.Sitd.{sitd_at, sitd_words}
use Rattle.itd_sitd.proofs.SitdLaws.{sitd_read-words, sitd_read-is}
use Rattle.drv_periodic_table.specs.Periodic.{note_at}
use Rattle.drv_periodic_table.specs.Descriptors.{new_sitd, sitd_in}
use Rattle.drv_table.specs.declared.content.Command.{Command}
use Rattle.drv_table.specs.declared.content.Command.TheVariants as unfinished
use Rattle.drv_table.specs.declared.content.Transfer.{Transfer}
use Rattle.drv_table.specs.DriverContent.{DriverContent}
use Rattle.hub_class.specs.HubContent.{HubContent}
use Rattle.tt_pipeline.specs.declared.entry.Entry.{Entry}
use Rattle.claims_driver.specs.DueMembers.{framed_to}
use Rattle.law_descriptors.specs.Written.{HasFields}
use Rattle.law_driver.proofs.lemmas.iso_frames.Harvested.{get_dropped}
use Rattle.law_world.specs.memory.framed_memory.Isochronous.{AwaitsLend, AreAwaiting}
use Rattle.law_microframes.specs.translators.Turns.{EntriesAre, UnframedIsNew}
use Rattle.law_microframes.proofs.lemmas.time.SitdCommands.{split_words}
use Rattle.law_microframes.proofs.lemmas.time.SitdNew.{bare_range}

-- where none was sent, nothing is to show
pub none_sent : (P : Entry → Type 0) (hs : List HubContent) (v : Sitd) → v.c_prog ≡ 0 → EntriesAre P hs v
none_sent P hs v none on way some = absurd (true≢false (sym (ap (λ (n : ℕ). n == 0) none) ∙ some))

-- ---- the words of a new one

third : (ws vs : List ℕ) → slice_index ws 3 ≡ slice_index vs 3 → (sitd_at ws).c_prog ≡ (sitd_at vs).c_prog
unfolding sitd_at
third ws vs same = ap (bits 15 8) same

module _ (x : EpDesc) (smask cmask slot : ℕ) where
  abbrev bare : Sitd
  bare = record (new_sitd x smask cmask slot []) { link = link_at 0 }

  bare_prog : HasFields x → smask < 256 → cmask < 256 → slot ≤ 1023 → (sitd_at (sitd_words bare)).c_prog ≡ 0
  bare_prog fits starts completes few =
      ap (λ (v : Sitd). v.c_prog)
      (sym (sitd_read-is (sitd_words bare) bare (sitd_read-words bare (bare_range x smask cmask slot fits starts completes few))))

  same_third : (runs : List ℕ) → slice_index (sitd_words (new_sitd x smask cmask slot runs)) 3 ≡ slice_index (sitd_words bare) 3
  unfolding sitd_words
  same_third runs = refl

  new_prog : (b : ℕ) (runs : List ℕ) (m : Mem) → HasFields x → smask < 256 → cmask < 256 → slot ≤ 1023
      → words_at m (32 * b) 7 ≡ sitd_words (new_sitd x smask cmask slot runs) → (sitd_in m b).c_prog ≡ 0
  new_prog b runs m fits starts completes few words =
      third _ (sitd_words bare)
      (sym (get_or-words_in m.words (32 * b) 7 3 (omega arith)) ∙ ap (λ (ws : List ℕ). slice_index ws 3) words ∙ same_third runs)
      ∙ bare_prog fits starts completes few

pub awaits_new : (d : DriverContent) (m : Mem) (e t : ℕ) → AwaitsLend d m e t → (i : ℕ) (y : Transfer)
    → slice_get (drop t d.transfers) i ≡ Some y → (note_at d.periodic.notes y.first).split ≡ true → (sitd_in m y.first).c_prog ≡ 0
awaits_new d m e t a i y there split =
    let note = note_at d.periodic.notes y.first in
    let written = (a.await.each i y there).written in
    let limit : note.slot ≤ 1023 = subst (λ (c : Bool). note.slot ≤ (if c then 1023 else 3072)) split written.noted.few in
    new_prog a.endpoint.desc note.smask note.cmask note.slot y.first note.buffer m a.await.fields written.noted.smask written.noted.cmask
    limit (split_words a.endpoint.desc note m y.first split written.words)

-- ---- one that has no frame

unframed : (d : DriverContent) (m : Mem) (number : ℕ) (y : Transfer) → AreAwaiting d m → slice_get d.transfers number ≡ Some y
    → (note_at d.periodic.notes y.first).split ≡ true → framed_to d.command d.made (length d.transfers) ≤ number
    → (sitd_in m y.first).c_prog ≡ 0
unframed d m number y await here split high = by d.command d.made refl refl high
  where
    low : number < length d.transfers
    low = slice_get_within d.transfers number y here

    none : (n : ℕ) → n ≤ number → n ≡ length d.transfers → (sitd_in m y.first).c_prog ≡ 0
    none n high is = absurd (omega (arith, high, low, is))

    by : (c : Option Command) (made : ℕ) → d.command ≡ c → d.made ≡ made → framed_to c made (length d.transfers) ≤ number
        → (sitd_in m y.first).c_prog ≡ 0
    by None made is at high = none _ high refl
    by (Some (unfinished.Open queue)) made is at high = none _ high refl
    by (Some (unfinished.Publish b words)) made is at high = none _ high refl
    by (Some (unfinished.Unlink e b link)) made is at high = none _ high refl
    by (Some unfinished.Chain) made is at high = none _ high refl
    by (Some (unfinished.Iso e t count)) zero is at high =
        let a : AwaitsLend d m e t = await e t count is (omega (arith, at)) in
        let sum : t + (number - t) ≡ number = omega (arith, high) in
        awaits_new d m e t a (number - t) y
        (get_dropped t d.transfers (number - t) ∙ ap (slice_get d.transfers) sum ∙ here) split
    by (Some (unfinished.Iso e t count)) (suc made) is at high = none _ high refl
    by (Some (unfinished.Unchain e)) made is at high = none _ high refl

pub unframed_is_new : UnframedIsNew
unframed_is_new w mixed i high = unframed w.driver w.memory i.number i.transfer mixed.mixed.awaiting i.there i.split high
