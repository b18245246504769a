use Rattle.law_microframes.proofs.lemmas.time.HeadReadMoments.{scripts_read_few_heads, texts_read_few_heads}
use Rattle.law_microframes.proofs.time.heads.the_head_is_read_once_and_ends_the_part.Goals as goal

pub returns : goal.returns
returns c = record { scripts = scripts_read_few_heads; texts = texts_read_few_heads }
