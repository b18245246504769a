use Rattle.std.proofs.Common.{◌≡◌, ◌∙◌, ◌%◌, ◌<◌, ℕ, List, length, slice_index, ap, sym, subst, arith}
use Rattle.word_mem.specs.Memory.{Mem, IsShaped}
use Rattle.image_codec.specs.Image.{IsAligned, HasFields}
use Rattle.bus_world.proofs.world.World.image.Goals as goal

-- an image of these words
aligned : (frindex list_base async_at : ℕ) (words : List ℕ) (m : Mem) → words ≡ m.words → IsShaped m → frindex < 16384 → list_base % 4096 ≡ 0 → async_at % 32 ≡ 0
    → IsAligned (record { frindex = frindex; list_base = list_base; async_at = async_at; words = words })
aligned frindex list_base async_at words m e shape f l a =
    let long : length words ≡ length m.words = ap length e in
    record {
      frindex = omega arith;
      list_base = l;
      async_at = a;
      whole = ap (λ n. n % 1024) long ∙ shape.whole_pages;
      least = omega (arith, shape.at_least, long);
      most = omega (arith, shape.at_most, long);
    }

fields : (frindex list_base async_at : ℕ) (words : List ℕ) (m : Mem) → words ≡ m.words → ((i : ℕ) → slice_index m.words i < 4294967296) → list_base < 4294967296 → async_at < 4294967296
    → HasFields (record { frindex = frindex; list_base = list_base; async_at = async_at; words = words })
fields frindex list_base async_at words m e fit l a = record {
  list_base = l;
  async_at = a;
  words = λ i. subst (λ ws. slice_index ws i < 4294967296) (sym e) (fit i);
}

pub returns-clause-aligned : goal.returns-clause-aligned
returns-clause-aligned c =
    aligned c.frame_index.result c.periodic_list_base.result c.async_list_address.result c.of.result c.args.self.now.work.world.memory (c.of.ensures ∙ c.in_ok-words.ensures.words)
    c.copied_words.ensures.shape c.frame_index.ensures.bound c.periodic_list_base.ensures.aligned c.async_list_address.ensures.aligned

pub returns-clause-fields : goal.returns-clause-fields
returns-clause-fields c =
    fields c.frame_index.result c.periodic_list_base.result c.async_list_address.result c.of.result c.args.self.now.work.world.memory (c.of.ensures ∙ c.in_ok-words.ensures.words)
    c.copied_words.ensures.fits (omega arith) (omega arith)
