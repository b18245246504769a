-- One store of what is under way: it isn't the last where a word is left.
use Rattle.std.proofs.Common.{◌≡◌, ℕ, suc, ◌+◌, ◌<◌, true, false, List, [], ◌∷◌, length, map, drop, Some, None, Option, if◌then◌else◌, ap, sym, ◌∙◌, arith}
use Rattle.std.specs.Prelude.{option_map}
use Rattle.std.proofs.lemmas.Bool.{lt-ltb, le-ltb}
use Rattle.drv_chains.specs.declared.members.Predecessor.{Predecessor}
use Rattle.drv_chains.specs.Chains.{Schedule}
use Rattle.drv_search.specs.declared.search.Found.{Found}
use Rattle.drv_search.specs.declared.search.Search.{Search}
use Rattle.drv_search.specs.Search.{words_left, word_of, IsSearch}
use Rattle.drv_members.specs.Members.{Members}
use Rattle.drv_periodic.specs.declared.work.Work.{Work}
use Rattle.drv_periodic.specs.declared.work.Task.{Task}
use Rattle.drv_periodic.specs.declared.work.Progress.TheVariants as progresses
use Rattle.drv_periodic.specs.Periodic.{Periodic, words_of, value_of, is_more, store_at, store_of, members_after, after_work, progress_by}
use Rattle.drv_periodic.specs.Tasks.{IsTask}
use Rattle.drv_periodic.proofs.Words.{one_less, words_most}

plus_one : (n : ℕ) → suc n ≡ n + 1
plus_one n = omega arith

-- the words that are left, once one more is found
pub words_next : (s : Schedule) (t : Task) (found : Found) (left : List Found) → IsTask s t → words_left s t.search ≡ found ∷ left → drop (t.work.made + 1) (words_of s t.work) ≡ word_of s found ∷ map (word_of s) left
words_next s t found left k e =
    let h = one_less t.work.made (words_of s t.work) t.word (map (word_of s) (words_left s t.search)) k.words in
    ap (λ n. drop n (words_of s t.work)) (sym (plus_one t.work.made)) ∙ h.0 ∙ ap (λ ws. map (word_of s) ws) e

pub more_left : (s : Schedule) (t : Task) (found : Found) (left : List Found) → IsTask s t → words_left s t.search ≡ found ∷ left → is_more s t.work ≡ true
more_left s t found left k e =
    let h = one_less t.work.made (words_of s t.work) t.word (map (word_of s) (words_left s t.search)) k.words in
    let l : length (map (word_of s) (words_left s t.search)) ≡ length (map (word_of s) (found ∷ left)) = ap (λ ws. length (map (word_of s) ws)) e in
    let n = h.1.1 in
    lt-ltb (t.work.made + 1) (length (words_of s t.work)) (omega (arith, n, l))

pub none_left : (s : Schedule) (t : Task) → IsTask s t → words_left s t.search ≡ [] → is_more s t.work ≡ false
none_left s t k e =
    let h = one_less t.work.made (words_of s t.work) t.word (map (word_of s) (words_left s t.search)) k.words in
    let l : length (map (word_of s) (words_left s t.search)) ≡ 0 = ap (λ ws. length (map (word_of s) ws)) e in
    let n = h.1.1 in
    le-ltb (t.work.made + 1) (length (words_of s t.work)) (omega (arith, n, l))

pub made_few : (s : Schedule) (t : Task) → IsTask s t → t.work.made < 1024
made_few s t k =
    let h = one_less t.work.made (words_of s t.work) t.word (map (word_of s) (words_left s t.search)) k.words in
    let n = h.1.1 in
    let m = words_most s t.work.member in
    omega (arith, n, m)

pub store_now : (list : ℕ) (s : Schedule) (t : Task) → IsTask s t → Some (store_at list t.word t.value) ≡ store_of list s t.work
store_now list s t k =
    let h = one_less t.work.made (words_of s t.work) t.word (map (word_of s) (words_left s t.search)) k.words in
    ap (λ v. Some (store_at list t.word v)) k.value ∙ ap (λ o. option_map (λ word. store_at list word (value_of s t.work)) o) (sym h.1.0)

-- what stands after it
abbrev with_work : ℕ → Members → Option Work → Periodic
with_work list m w = record { list = list; members = m; work = w }

pub after_more : (list : ℕ) (m : Members) (w : Work) → is_more m.schedule w ≡ true → with_work list m (Some (record w { made = w.made + 1 })) ≡ after_work (with_work list m (Some w)) (Some w)
after_more list m w e = ap (λ b. if b then with_work list m (Some (record w { made = w.made + 1 })) else with_work list (members_after m w) None) (sym e)

pub after_last : (list : ℕ) (m : Members) (w : Work) → is_more m.schedule w ≡ false → with_work list (members_after m w) None ≡ after_work (with_work list m (Some w)) (Some w)
after_last list m w e = ap (λ b. if b then with_work list m (Some (record w { made = w.made + 1 })) else with_work list (members_after m w) None) (sym e)

pub progress_more : (s : Schedule) (w : Work) → is_more s w ≡ true → progresses.More ≡ progress_by s (Some w)
progress_more s w e = ap (λ b. if b then progresses.More else progresses.Complete) (sym e)

pub progress_last : (s : Schedule) (w : Work) → is_more s w ≡ false → progresses.Complete ≡ progress_by s (Some w)
progress_last s w e = ap (λ b. if b then progresses.More else progresses.Complete) (sym e)

-- what the code keeps after it
pub next_is_task : (s : Schedule) (t : Task) (found : Found) (word : Predecessor) (search : Search) → IsTask s t → words_left s t.search ≡ found ∷ words_left s search → word ≡ word_of s found → IsSearch search
    → IsTask s (record { work = record t.work { made = t.work.made + 1 }; value = t.value; word = word; search = search })
next_is_task s t found word search k e w v = record {
  member = k.member;
  linked = k.linked;
  value = k.value;
  words = words_next s t found (words_left s search) k e ∙ ap (λ x. x ∷ map (word_of s) (words_left s search)) (sym w);
  search = v;
}
