mod Decoding
mod LineParts
mod LineStarts
mod Links
mod RuleNumbers
mod SaidNumbers
mod CharactersOfUtf8
