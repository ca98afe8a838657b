-- What a table of keys shows: the destructor of each key that exists, and each thread's value of each key.
use Rattle.std.specs.Prelude.{ℕ, ◌-◌, ◌==◌, ◌&&◌, Bool, not, List, Option, Some, None, find, is_none, unwrap_or, slice_index_or}
use Rattle.std.specs.List.{range_with_len}
use Rattle.std.specs.Option.{option_map}
use Rattle.thread_base.specs.Maps.{put, numbered}
use Rattle.thread_keys.specs.declared.key.Key.{Key}

-- the values of one key, by the threads' numbers
unfoldable pub values_of : Key → ℕ → ℕ
values_of key = numbered 0 key.values

-- and 0 where there is no key
abbrev pub values_in : Option Key → ℕ → ℕ
values_in None = λ t. 0
values_in (Some key) = values_of key

-- the destructor of each number that is a key's, where 0 stands for none; nothing for other numbers
-- (POSIX.1 thread-specific data keys)
unfoldable pub destructor_of : List (Option Key) → ℕ → Option ℕ
destructor_of keys k = option_map (λ key. key.destructor) (slice_index_or keys k None)

-- a thread's value of a key, and 0 of what is no key (POSIX.1: a new key has the value NULL in each thread)
unfoldable pub value_of : List (Option Key) → ℕ → ℕ → ℕ
value_of keys t k = values_in (slice_index_or keys k None) t

-- the numbers that a key can have (this project's limit; POSIX.1 asks for at least 128)
unfoldable pub key_numbers : List ℕ
key_numbers = range_with_len 0 128

-- the least number that is no key's (POSIX.1 leaves the choice of a key open)
abbrev pub free_key : (ℕ → Option ℕ) → Option ℕ
free_key destructors = find (λ k. is_none (destructors k)) key_numbers

-- the map with a destructor at the number that was found, if one was
abbrev pub put_found : (ℕ → Option ℕ) → Option ℕ → ℕ → ℕ → Option ℕ
put_found map None destructor = map
put_found map (Some k) destructor = put map k (Some destructor)

-- the values after a change of one thread's value of one key
abbrev pub put_value : (ℕ → ℕ → ℕ) → ℕ → ℕ → ℕ → ℕ → ℕ → ℕ
put_value values t k v = put values t (put (values t) k v)

-- the values after a key was taken away with all of its own
abbrev pub without_key : (ℕ → ℕ → ℕ) → ℕ → ℕ → ℕ → ℕ
without_key values k = λ t. put (values t) k 0

-- a key has a destructor, and a value in a thread that is not 0 (POSIX.1: the destructor is to be called at its exit)
abbrev pub is_due : (ℕ → Option ℕ) → (ℕ → ℕ → ℕ) → ℕ → ℕ → Bool
is_due destructors values t k = not (unwrap_or (destructors k) 0 == 0) && not (values t k == 0)

-- the least such key from a number on (POSIX.1 leaves the order of destructors open)
abbrev pub due_key : (ℕ → Option ℕ) → (ℕ → ℕ → ℕ) → ℕ → ℕ → Option ℕ
due_key destructors values t first = find (λ k. is_due destructors values t k) (range_with_len first (128 - first))

-- the key that was found, with its destructor and the thread's value
abbrev pub call_of : (ℕ → Option ℕ) → (ℕ → ℕ → ℕ) → ℕ → Option ℕ → Option (ℕ × ℕ × ℕ)
call_of destructors values t found = option_map (λ k. (k, unwrap_or (destructors k) 0, values t k)) found

-- the values after the thread's value of the key that was found, if one was, is set to 0
abbrev pub zero_found : (ℕ → ℕ → ℕ) → ℕ → Option ℕ → ℕ → ℕ → ℕ
zero_found values t None = values
zero_found values t (Some k) = put_value values t k 0
