-- The published digests, computed from the definition.
use mathlib.Core.Path.{refl}
use Rattle.fips180.specs.Functions.{ROTR, Ch, Maj, Σ0, Σ1, σ0, σ1}
use Rattle.fips180.specs.Constants.{K, H0}
use Rattle.fips180.specs.Padding.{be, be_bytes, padding, parts}
use Rattle.fips180.specs.Hash.{next_word, extended, schedule, round, rounds, added, hashed, word_bytes, sha256}
use Rattle.fips180.specs.Claimed.{published, EachIsTheDigest}

pub published_hold : EachIsTheDigest published
unfolding EachIsTheDigest sha256 word_bytes hashed added rounds round schedule extended next_word
    parts padding be_bytes be K H0 ROTR Ch Maj Σ0 Σ1 σ0 σ1
published_hold = (refl, (refl, (refl, tt)))
