-- What digests are, whatever the cuts.
--
-- The calls are parameters: a new state, feeding a part, finishing, and the digest of bytes in one call. `sha256` is FIPS 180-4's. Proved
-- of ours in proofs/Digests.antt.
use Rattle.std.specs.Prelude.{ℕ, ◌+◌, ◌%◌, ◌≤◌, ◌<◌, ◌≡◌, List, [], ◌∷◌, ◌++◌, Result, Ok, Err, length, set}
use Rattle.refusal.specs.declared.Fault.{Fault}
use Rattle.refusal.specs.declared.Fault.TheVariants.{TooLarge}
use Rattle.fips180.specs.Hash.{sha256}
use Rattle.sha256.specs.declared.Digest.{Digest}

-- parts laid end to end
unfoldable pub end_to_end : List (List ℕ) → List ℕ
end_to_end [] = []
end_to_end (part ∷ parts) = part ++ end_to_end parts

module _ (start : Digest) (feed : Digest → List ℕ → Result Digest Fault) (finish : Digest → Result (List ℕ) Fault)
    (whole : List ℕ → Result (List ℕ) Fault) where
  -- Parts are fed one after the other, each to the state that the last call answered. None is refused, and this state comes last.
  pub data AllFed : (state : Digest) (parts : List (List ℕ)) (last : Digest) → Type 0 where
    none_left : {state : Digest} → AllFed state [] state
    one_more :
        {state next last : Digest} {part : List ℕ} {parts : List (List ℕ)} → feed state part ≡ Ok next → AllFed next parts last
        → AllFed state (part ∷ parts) last

  pub record DigestClaim : Type 0 where
    -- however bytes are cut into parts, the digest of the parts is that of the whole
    pub whatever_the_cuts :
        (parts : List (List ℕ)) → length (end_to_end parts) ≤ 16777216
        → (last : Digest) × AllFed start parts last × (finish last ≡ Ok (sha256 (end_to_end parts)))
    -- and so it is in one call
    pub in_one_call : (bytes : List ℕ) → length bytes ≤ 16777216 → whole bytes ≡ Ok (sha256 bytes)
    -- from any state, also one that was made up, feeding a part and then another is feeding both at once
    pub one_after_the_other :
        (state : Digest) (first second : List ℕ) → state.fed + length (first ++ second) ≤ 16777216
        → (middle : Digest) × (feed state first ≡ Ok middle) × (feed middle second ≡ feed state (first ++ second))
    -- a byte is held in the first place that is not in use, the other held bytes keep their values, and one more is counted
    pub one_byte :
        (state : Digest) (byte : ℕ) → state.fed < 16777216
        → (next : Digest)
        × (feed state (byte ∷ []) ≡ Ok next)
        × (next.held ≡ set state.held (state.fed % 64) byte)
        × (next.fed ≡ state.fed + 1)
    -- more than a volume may have is refused, also where nothing more is fed
    pub too_many_fed : (state : Digest) (part : List ℕ) → 16777216 < state.fed + length part → feed state part ≡ Err TooLarge
    pub too_many_finished : (state : Digest) → 16777216 < state.fed → finish state ≡ Err TooLarge
    pub too_many_at_once : (bytes : List ℕ) → 16777216 < length bytes → whole bytes ≡ Err TooLarge
