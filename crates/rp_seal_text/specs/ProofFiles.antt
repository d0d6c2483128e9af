-- The files of a proof: an act with its proof of inclusion, and a link between two lists of acts.
use Rattle.std.specs.Prelude.{ℕ, ◌<◌, ◌≤◌, ◌^◌, List, ◌++◌, codes, length}
use Rattle.rp_seal.specs.Act.{ActEntry, entry_of}
use Rattle.rp_seal.specs.Hash.{hashes_of}
use Rattle.rp_seal_text.specs.ActText.{IsActText, act_text}
use Rattle.rp_seal_text.specs.Fields.{number_line}
use Rattle.rp_seal_text.specs.Hashes.{AreHashes, hashes_text}
use Rattle.rp_seal_text.specs.declared.act_proof.ActProof.{ActProof}
use Rattle.rp_seal_text.specs.declared.link.Link.{Link}

-- what the file of an act proof says: an act, the number of entries of the log for which the proof is, and the hashes of the proof
pub record ActProofFields : Type 0 where
  pub act : ActEntry
  pub size : ℕ
  pub proof : List (List ℕ)

-- an act proof in memory, by its values
abbrev pub act_proof_fields : ActProof → ActProofFields
act_proof_fields p = record { act = entry_of p.act; size = p.size; proof = hashes_of p.proof.items }

-- the number fits 64 bits, and there are at most 64 hashes, of 32 bytes each
pub record IsActProof (f : ActProofFields) : Type 0 where
  pub act : IsActText f.act
  pub size : f.size < 2 ^ 64
  pub few : length f.proof ≤ 64
  pub hashes : AreHashes f.proof

-- the text of an act proof up to its hashes
abbrev pub act_head : ActEntry → ℕ → List ℕ
act_head act size = codes "rpstore act 1\n" ++ (act_text act ++ number_line (codes "size") size)

-- the text of an act proof: its mark, the act, the number of entries and the hashes
abbrev pub act_proof_text : ActProofFields → List ℕ
act_proof_text f = act_head f.act f.size ++ hashes_text f.proof

-- what the file of a link says: the numbers of entries of the two lists, and the hashes of the proof of consistency
pub record LinkFields : Type 0 where
  pub from : ℕ
  pub to : ℕ
  pub proof : List (List ℕ)

-- a link in memory, by its values
abbrev pub link_fields : Link → LinkFields
link_fields l = record { from = l.from; to = l.to; proof = hashes_of l.proof.items }

-- the numbers fit 64 bits, and there are at most 64 hashes, of 32 bytes each
pub record IsLink (f : LinkFields) : Type 0 where
  pub from : f.from < 2 ^ 64
  pub to : f.to < 2 ^ 64
  pub few : length f.proof ≤ 64
  pub hashes : AreHashes f.proof

-- the text of a link up to its hashes
abbrev pub link_head : ℕ → ℕ → List ℕ
link_head from to = codes "rpstore link 1\n" ++ (number_line (codes "from") from ++ number_line (codes "to") to)

-- the text of a link: its mark, the two numbers and the hashes
abbrev pub link_text : LinkFields → List ℕ
link_text f = link_head f.from f.to ++ hashes_text f.proof
