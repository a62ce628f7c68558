-- A file is filled up to a multiple of four bytes.
use Rattle.std.proofs.Common.{◌≡◌, ◌≤◌, ◌+◌, ◌%◌, ℕ, length, arith}
use Rattle.std.proofs.lemmas.List.{length-replicate}
use Rattle.etx_dvi.specs.Tail.{tail_length, tail_of}

pub whole : (place : ℕ) → (place + length (tail_of place)) % 4 ≡ 0
whole place = let e : length (tail_of place) ≡ tail_length place = length-replicate (tail_length place) 223 in omega arith

pub least : (place : ℕ) → 4 ≤ length (tail_of place)
least place = let e : length (tail_of place) ≡ tail_length place = length-replicate (tail_length place) 223 in omega arith

pub most : (place : ℕ) → length (tail_of place) ≤ 7
most place = let e : length (tail_of place) ≡ tail_length place = length-replicate (tail_length place) 223 in omega arith
