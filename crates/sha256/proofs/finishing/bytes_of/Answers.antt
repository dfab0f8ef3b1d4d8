use Rattle.std.proofs.Common.{[], ◌∷◌, arith, refl, rules, ◌∙◌}
use Rattle.std.proofs.lemmas.Slice.{overwrites}
use Rattle.sha256.proofs.Endian.{eight_words, word_written, all_written}
use Rattle.sha256.proofs.finishing.bytes_of.Goals as goal

pub loop-i-preserved : goal.loop-i-preserved
loop-i-preserved c =
    let H = c.args.words in
    let head = c.loop-i in
    record {
      long = search (rules, overwrites);
      written = word_written (H.a ∷ H.b ∷ H.c ∷ H.d ∷ H.e ∷ H.f ∷ H.g ∷ H.h ∷ []) head.digest _ head.i _ (omega arith) (omega arith) refl
          (c.copy_from_slice.ensures.after ∙ c.to_be_bytes.ensures) head.invariant.written;
    }

pub returns : goal.returns
returns c =
    let H = c.args.words in
    let head = c.loop-i in
    all_written (H.a ∷ H.b ∷ H.c ∷ H.d ∷ H.e ∷ H.f ∷ H.g ∷ H.h ∷ []) head.digest head.i (omega arith) (omega arith) head.invariant.written
    ∙ eight_words H
