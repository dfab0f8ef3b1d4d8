use Rattle.std.proofs.Common.{◌≡◌, length, arith, take_all, ◌∙◌}
use Rattle.fips180.proofs.Parts.{words-length}
use Rattle.compression.proofs.Extending.{load_step}
use Rattle.compression.proofs.Loading.{word_of_chunk}
use Rattle.compression.proofs.schedule.load_words.Goals as goal

pub loop-t-preserved : goal.loop-t-preserved
loop-t-preserved c =
    let head = c.loop-t in
    let block = c.args.block.now in
    let chunks = c.as_chunks in
    let few : length chunks.result.0.now ≡ 16 = omega (arith, chunks.ensures.front_len) in
    load_step block head.schedule head.t _ (omega arith) (omega arith) head.invariant
    (c.from_be_bytes.ensures ∙ word_of_chunk block chunks.result.0.now head.t (omega arith) chunks.ensures.front (omega arith))

pub returns : goal.returns
returns c =
    let head = c.loop-t in
    let end : head.t ≡ 16 = omega (arith, c.as_chunks.ensures.front_len) in
    rw end at head.invariant ∙ take_all 16 _ (omega (arith, words-length c.args.block.now))
