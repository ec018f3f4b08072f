use Rattle.fp_text.specs.WordsLaws.{words_of-tokens}
use Rattle.fp_text.proofs.cursor.Tokens.new.Goals as goal

pub returns-clause-tokens : goal.returns-clause-tokens
returns-clause-tokens c = words_of-tokens c.args.bytes.now
